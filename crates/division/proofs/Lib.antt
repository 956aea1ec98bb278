pub mod Demand3Laws
pub mod DivisionLaws
pub mod NotOdd
