pub mod Given
pub mod Compiled
pub mod Starts
pub mod Enough
