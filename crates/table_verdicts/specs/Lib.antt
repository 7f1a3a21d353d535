pub mod Verdicts
pub mod Types
pub mod Asked
pub mod Laws
