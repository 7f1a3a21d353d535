pub mod Weights
pub mod Turns
pub mod Runs
pub mod Once
pub mod Counting
