pub mod Step
pub mod Answer
pub mod Following
pub mod Room
