pub mod Refusals
pub mod Answer
pub mod Replay
pub mod ReplayLaws
pub mod HeldLaws
pub mod Bounds
pub mod Made
pub mod Fields
