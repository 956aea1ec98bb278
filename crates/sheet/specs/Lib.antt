pub mod Decimal
pub mod Numbers
pub mod Line
pub mod Worked
