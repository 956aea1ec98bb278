pub mod MoveLaws
pub mod WayLaws
