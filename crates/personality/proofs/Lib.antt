pub mod Members
pub mod NamedBy
