pub mod Begins
pub mod Blanks
pub mod After
