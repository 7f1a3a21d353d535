pub mod Statements
pub mod Destructors
pub mod Functions
