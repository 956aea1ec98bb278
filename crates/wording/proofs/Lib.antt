pub mod Shown
pub mod StepLaws
