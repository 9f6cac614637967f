pub mod Merging
pub mod Answers
pub mod Law
pub mod Many
