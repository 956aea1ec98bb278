pub mod Edition
pub mod Numbers
