pub mod Distance
pub mod Written
pub mod CanWrite
pub mod Fits
pub mod WrittenHeader
pub mod WrittenFrames
pub mod CanWriteFrames
