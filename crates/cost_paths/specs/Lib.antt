pub mod Control
pub mod Order
pub mod Ahead
pub mod Words
pub mod Runs
pub mod Paths
