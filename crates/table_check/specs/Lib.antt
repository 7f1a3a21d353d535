pub mod Refusals
pub mod Tally
pub mod Counts
pub mod Checks
pub mod Known
