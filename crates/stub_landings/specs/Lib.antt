pub mod Rests
pub mod OwnCalls
pub mod StubStacks
pub mod Landings
pub mod OwnRaises
