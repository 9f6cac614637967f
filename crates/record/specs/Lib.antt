pub mod Names
pub mod Tags
pub mod Format
pub mod Reading
pub mod Answers
pub mod Writing
pub mod Law
