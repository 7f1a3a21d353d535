pub mod Format
pub mod Listing
pub mod Decoding
pub mod Arithmetic
pub mod State
pub mod Step
