pub mod Rows
pub mod Slate
pub mod Held
pub mod Calls
pub mod Printing
pub mod Passes
pub mod Promise
pub mod Borrowed
