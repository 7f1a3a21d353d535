pub mod Source
pub mod Fate
pub mod Answer
