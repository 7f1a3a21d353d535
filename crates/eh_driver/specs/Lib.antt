pub mod Events
pub mod Compiled
pub mod Exec
pub mod Harts
pub mod Pack
pub mod Promise
