pub mod Told
pub mod ToldLaws
pub mod Numbered
pub mod NumberedLaws
