pub mod Listing
pub mod Cursors
pub mod Passes
pub mod Promise
