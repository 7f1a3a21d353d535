pub mod Tables
pub mod Pads
pub mod Filters
pub mod Jumps
pub mod JumpFilters
