pub mod Bytes
pub mod Storing
pub mod Fetching
pub mod Stepping
pub mod Numbers
pub mod Registers
pub mod Going
pub mod Keeping
pub mod Places
pub mod Branching
pub mod Operators
pub mod Values
pub mod Testing
pub mod Framing
pub mod Routines
pub mod Turning
mod Calling
mod Writing
pub mod Restoring
pub mod Saving
pub mod Written
pub mod Outward
mod Addressing
