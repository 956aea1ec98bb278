pub mod Lines
pub mod PageLaws
