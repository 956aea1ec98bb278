pub mod AdditionLaws
pub mod MantissaLaws
pub mod ShortExact
pub mod ShortRouteLaws
pub mod SignBytesLaws
pub mod TooBigLaws
pub mod MendedLaws
pub mod NotOdd
