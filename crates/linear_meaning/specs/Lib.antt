pub mod Regions
pub mod Runs
pub mod Clauses
pub mod WatchedRuns
pub mod Costs
pub mod Fields
