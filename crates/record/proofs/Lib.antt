pub mod Spans
pub mod Turns
pub mod Fields
pub mod Judging
pub mod Agreement
pub mod Laws
