pub mod Words
pub mod Paying
mod Worked
pub mod Chosen
pub mod Sizes
