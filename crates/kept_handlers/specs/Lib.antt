pub mod Depths
pub mod Handlers
pub mod Left
pub mod Code
pub mod Lowered
