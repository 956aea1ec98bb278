pub mod Wording
pub mod Room
