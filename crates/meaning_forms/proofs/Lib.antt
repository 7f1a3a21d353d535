pub mod Trees
pub mod Full
pub mod Turns
pub mod Fuel
pub mod Worked
pub mod Edges
pub mod Noexcept
