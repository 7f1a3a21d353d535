pub mod Bytes
pub mod Parts
pub mod Reserved
pub mod Serving
pub mod Initial
pub mod Load
pub mod Next
pub mod Decoder
