pub mod WellFormed
pub mod Tokens
pub mod Slots
pub mod Counts
