pub mod OpenCalls
pub mod Walks
pub mod Tables
pub mod Verdicts
pub mod Opens
pub mod Raises
pub mod Resumes
