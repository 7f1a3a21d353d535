pub mod Resolved
pub mod Deep
pub mod Sizes
pub mod Shallow
