pub mod Meaning
pub mod Starting
pub mod Enough
