pub mod RowStays
pub mod ChangesDecide
pub mod Decided
pub mod PiecesRise
pub mod LeastDifference
pub mod Counts
pub mod Sound
mod Named
mod Leasts
mod Headers
mod Finds
mod Inside
mod Linked
mod Spanned
mod Walked
mod Cies
mod Gathers
mod Places
mod Wholes
mod Halved
mod Ordered
mod Soundly
mod Pairs
mod OnWays
mod Meetings
mod Merges
mod Carried
mod Sides
mod Compared
mod Worked
mod Readily
