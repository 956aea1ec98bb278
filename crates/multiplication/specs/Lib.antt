pub mod Multiplication
pub mod MultiplicationLaws
pub mod Commutes
pub mod Places
pub mod ShortProduct
pub mod Rounding
pub mod RoundingLaws
pub mod NotOdd
