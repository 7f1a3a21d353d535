pub mod Ends
pub mod Throws
pub mod Rethrows
pub mod Modules
pub mod Full
pub mod Unwinds
pub mod Exits
pub mod Barriers
