mod Worked
mod WorkedTables
pub mod Integers
pub mod Agreeing
pub mod Merging
pub mod Once
pub mod Meaning
pub mod Cleanups
pub mod Labels
pub mod Slots
pub mod Deepening
pub mod Paces
pub mod Running
pub mod Ways
pub mod Copying
pub mod Standing
pub mod Lists
pub mod Pads
pub mod Growing
pub mod Choosing
pub mod Sizing
pub mod Defined
