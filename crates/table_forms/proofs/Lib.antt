pub mod Walks
pub mod Loops
pub mod Least
pub mod Beyond
pub mod RowFold
mod Worked
pub mod Kept
pub mod Alls
