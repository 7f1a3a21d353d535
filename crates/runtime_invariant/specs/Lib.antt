pub mod Memory
pub mod Aims
