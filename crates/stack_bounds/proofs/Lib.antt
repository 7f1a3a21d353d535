pub mod Overflow
pub mod Calls
pub mod Taken
