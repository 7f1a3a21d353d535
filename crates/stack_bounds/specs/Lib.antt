pub mod Overflow
pub mod Taken
