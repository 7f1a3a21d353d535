pub mod Always
pub mod Asked
pub mod Steps
