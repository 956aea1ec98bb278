pub mod EndingLaws
pub mod EndsLaws
pub mod ShiftLaws
