pub mod Addition
pub mod SignedLaws
pub mod AdditionLaws
pub mod ShortRouteLaws
pub mod TooBig
pub mod SecondHalves
pub mod SignBytes
pub mod MendedLaws
