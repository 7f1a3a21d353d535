pub mod Component
pub mod Mangled
pub mod Names
