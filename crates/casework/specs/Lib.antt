pub mod Counting
pub mod Meant
pub mod Names
pub mod Showing
