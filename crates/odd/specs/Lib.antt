pub mod Mending
pub mod EitherLaws
