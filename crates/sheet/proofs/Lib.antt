pub mod DecimalLaws
pub mod NumbersLaws
pub mod LineLaws
pub mod StepLaws
