mod Offsets
pub mod Reading
pub mod SitesRead
mod ChainsRead
pub mod ListsRead
pub mod Alls
mod Shape
pub mod Aligned
pub mod HeadRead
pub mod Lengths
pub mod EntriesRead
pub mod ListsFound
pub mod ChainsFound
pub mod Readable
pub mod ReadTable
mod Clean
mod TableRead
mod Writes
mod DistanceRead
pub mod Found
mod HeaderRead
mod FrameFields
mod MovesRead
mod MovesStand
mod CieRead
mod FdeRead
mod SpansRead
mod PartsRead
mod FramesWritten
