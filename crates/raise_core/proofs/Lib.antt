pub mod Given
mod Registers
mod Lookups
mod Walks
mod Landings
mod Rising
mod Outcomes
mod Entering
mod Faults
