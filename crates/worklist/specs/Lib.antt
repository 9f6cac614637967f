pub mod Lines
pub mod Promise
pub mod Calls
pub mod Law
