pub mod Ending
pub mod Shift
pub mod Ends
pub mod NotOdd
