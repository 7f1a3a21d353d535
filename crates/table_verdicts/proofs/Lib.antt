pub mod Looked
pub mod Matching
pub mod Filters
pub mod Deciding
pub mod Sites
pub mod Telling
