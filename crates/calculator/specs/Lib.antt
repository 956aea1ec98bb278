pub mod Outcome
pub mod Run
pub mod RunLaws
