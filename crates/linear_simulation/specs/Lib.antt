pub mod Watched
pub mod Alike
pub mod Comes
pub mod Simulates
pub mod FunctionsRun
pub mod ProgramRuns
pub mod Fronts
