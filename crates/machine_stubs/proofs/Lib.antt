pub mod Walking
pub mod Jumping
pub mod Ending
pub mod Reaching
mod Terminate
mod EndCatch
mod Start
mod Placed
mod UnexpectedBegins
mod UnexpectedChecks
mod UnexpectedEnds
mod UnexpectedAnswers
mod Calls
mod ComesBack
mod Frees
mod Terminates
mod Destroys
