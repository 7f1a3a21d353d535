pub mod Objects
pub mod Inward
pub mod Seen
pub mod Gives
pub mod Program
pub mod Cleaned
pub mod Outside
