pub mod Walks
pub mod Places
pub mod Laid
pub mod Items
pub mod Visited
pub mod Sights
pub mod Turns
