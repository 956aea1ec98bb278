pub mod NegateLaws
pub mod NotOdd
pub mod RestackLaws
pub mod RestackNegated
pub mod OperandLaws
pub mod RestackValueLaws
