pub mod Laid
pub mod Names
pub mod Laws
pub mod Standing
pub mod Runs
