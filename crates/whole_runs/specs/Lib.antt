pub mod Turns
pub mod Steps
pub mod Runs
pub mod Enough
pub mod Deepest
