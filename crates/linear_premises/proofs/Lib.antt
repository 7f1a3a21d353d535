pub mod Expressions
pub mod Statements
pub mod Linear
pub mod Programs
