pub mod Refusal
pub mod Words
