pub mod Held
pub mod Handled
pub mod Calls
pub mod Code
pub mod Stands
pub mod Asked
pub mod Phases
pub mod Forced
