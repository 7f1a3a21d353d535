pub mod Rooms
pub mod Everywhere
pub mod Reaches
pub mod Givens
pub mod Laws
