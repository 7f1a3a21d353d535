pub mod Passing
pub mod Raising
pub mod Left
pub mod Entering
pub mod Outward
pub mod Unexpected
pub mod Named
pub mod Counted
