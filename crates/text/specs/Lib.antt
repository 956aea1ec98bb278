pub mod Ascii
pub mod Put
pub mod Digits
pub mod Page
