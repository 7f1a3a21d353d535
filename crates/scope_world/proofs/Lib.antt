pub mod Parted
pub mod Listed
pub mod Replied
pub mod Emitted
