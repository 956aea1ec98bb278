pub mod Rounds
pub mod RoundsLaws
pub mod Division
pub mod Operand
pub mod DivisionLaws
pub mod Demand3
