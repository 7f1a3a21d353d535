pub mod View
pub mod Offsets
pub mod Marks
pub mod Starts
pub mod Body
pub mod Places
pub mod Laws
