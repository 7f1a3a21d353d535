pub mod Scopes
pub mod Destructors
pub mod Lowered
pub mod Ordered
pub mod Fueled
pub mod Forms
pub mod Extents
pub mod Sources
