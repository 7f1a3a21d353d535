pub mod Marked
mod Lines
mod Turned
