pub mod Carrying
pub mod Flights
pub mod Slots
pub mod Targets
pub mod Aims
