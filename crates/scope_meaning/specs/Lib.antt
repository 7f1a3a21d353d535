pub mod Asked
pub mod Steps
pub mod Modules
pub mod Mean
pub mod Levels
