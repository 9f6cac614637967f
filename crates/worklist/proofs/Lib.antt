pub mod Slates
pub mod Others
pub mod Refusals
pub mod Stays
pub mod Told
pub mod Keeping
pub mod Listed
pub mod Working
