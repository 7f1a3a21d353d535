pub mod Overflow
pub mod AtOnce
pub mod Throws
pub mod Rethrows
pub mod Modules
pub mod Unwinds
