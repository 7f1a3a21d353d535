pub mod Store
pub mod Sink
pub mod Module
pub mod Schedule
pub mod MemStore
pub mod MemSink
pub mod Replies
pub mod Domain
