pub mod Section
pub mod Symbol
pub mod Written
pub mod Laws
