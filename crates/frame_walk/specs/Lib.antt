pub mod Registers
pub mod Outward
pub mod Changed
pub mod Located
