pub mod Known
pub mod Walked
pub mod Programs
