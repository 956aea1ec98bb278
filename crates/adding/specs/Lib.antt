pub mod Sum
pub mod Term
