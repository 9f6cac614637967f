pub mod Telling
pub mod Visits
pub mod Tokens
pub mod Runs
