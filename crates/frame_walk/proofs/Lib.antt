mod Rules
pub mod Tables
pub mod Nexts
