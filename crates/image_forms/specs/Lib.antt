pub mod Function
pub mod Room
pub mod Placed
pub mod Records
pub mod Tables
pub mod Linked
pub mod Linkable
pub mod Symbols
