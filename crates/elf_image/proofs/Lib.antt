mod Joined
mod Turns
pub mod Sound
mod Whole
mod FieldsRead
mod HeaderWritten
mod ProgramsWritten
mod Standing
mod LoadsWritten
mod FoundWritten
mod ImageHeaders
mod ImageWritten
mod BehindWritten
pub mod Sizes
pub mod Cleaned
mod FramesStart
pub mod Stays
pub mod Longer
pub mod LongerImage
