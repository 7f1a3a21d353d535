pub mod Joined
pub mod Entries
pub mod Bounds
pub mod Images
pub mod Whole
pub mod Stands
pub mod Row
pub mod Writers
pub mod Handed
pub mod Lists
pub mod Places
pub mod ReadMemory
pub mod ReadFrames
pub mod ReadTables
pub mod Runs
mod NamedRuns
mod NamedSizes
