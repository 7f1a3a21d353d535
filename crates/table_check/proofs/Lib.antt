pub mod Read
pub mod Bounds
pub mod Few
mod Ordered
mod Judged
mod Whole
