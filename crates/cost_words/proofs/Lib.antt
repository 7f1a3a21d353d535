pub mod Regions
pub mod Counts
pub mod Runs
pub mod Spends
