pub mod Tests
pub mod Operations
pub mod Coded
pub mod Loads
pub mod Asked
