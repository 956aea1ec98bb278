pub mod IntLaws
