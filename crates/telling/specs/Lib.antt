pub mod Verdict
pub mod Room
