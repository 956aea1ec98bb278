pub mod Recording
pub mod RecordingLaws
