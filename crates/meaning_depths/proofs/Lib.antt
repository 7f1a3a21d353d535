pub mod Stopping
pub mod StoppingTrees
pub mod StoppingCalls
