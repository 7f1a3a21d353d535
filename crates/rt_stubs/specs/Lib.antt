pub mod Listing
pub mod Forward
pub mod Laws
