pub mod Steps
pub mod Laws
pub mod Stretch
pub mod Rows
