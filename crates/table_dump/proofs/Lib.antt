mod Ends
pub mod Locations
mod TableText
mod Pointers
mod Places
pub mod Functions
mod Cies
pub mod Dumped
