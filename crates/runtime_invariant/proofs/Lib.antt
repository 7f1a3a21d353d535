pub mod Unwinding
pub mod Memory
pub mod Calls
pub mod Aims
