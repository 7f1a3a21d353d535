pub mod Extents
pub mod Reaching
pub mod Laws
pub mod Plans
