pub mod Puts
pub mod StepLaws
