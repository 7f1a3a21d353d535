pub mod Marks
pub mod Parts
pub mod Forms
pub mod Guards
pub mod Regions
pub mod Flights
pub mod Slots
pub mod Targets
