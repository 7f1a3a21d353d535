pub mod Close
pub mod FrontOf
pub mod Steps
pub mod Told
