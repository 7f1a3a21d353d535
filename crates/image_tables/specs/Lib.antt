pub mod Read
pub mod Functions
pub mod Rows
pub mod FrameLaws
pub mod TableLaws
pub mod TypeLaws
