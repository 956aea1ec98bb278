pub mod Entry
pub mod Room
pub mod Taking
