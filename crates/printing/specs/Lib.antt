pub mod Names
pub mod Page
pub mod Room
