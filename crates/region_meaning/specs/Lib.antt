pub mod Scopes
pub mod Destructors
pub mod Lowered
pub mod Extents
pub mod Forms
pub mod Sources
