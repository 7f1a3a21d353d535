pub mod Formats
pub mod Codec
