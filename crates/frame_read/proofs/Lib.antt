pub mod OnWay
pub mod Stepped
mod Texts
mod Unmoved
mod Room
mod Folds
mod Heads
pub mod Spanned
pub mod Halves
pub mod Found
pub mod Cies
pub mod Joined
mod Rows
mod Gathers
mod InRange
pub mod Members
pub mod Sweeps
pub mod Overlaps
pub mod Rises
mod Wholes
pub mod Orders
pub mod Apart
pub mod Spread
pub mod Sound
pub mod FdeHalves
pub mod Ordered
pub mod FdesRise
mod Reading
mod Again
mod FoundAgain
mod Searches
mod Searched
pub mod RowWalks
mod Moved
mod Locations
mod Stays
mod Kept
