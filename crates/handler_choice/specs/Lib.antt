pub mod Around
pub mod Says
pub mod Own
pub mod Chosen
pub mod Open
pub mod Laws
