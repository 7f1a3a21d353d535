pub mod Own
pub mod Pads
pub mod Closed
pub mod Landed
pub mod Entering
pub mod Landings
pub mod OwnRaises
