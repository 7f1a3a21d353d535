pub mod Units
pub mod Tables
pub mod Literals
pub mod Operations
pub mod Images
