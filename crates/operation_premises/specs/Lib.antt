pub mod Static
pub mod Ints
pub mod Known
pub mod Asked
