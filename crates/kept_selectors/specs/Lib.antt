pub mod Stopping
pub mod Selectors
