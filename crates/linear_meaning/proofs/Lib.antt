pub mod Regions
pub mod Runs
mod Rows
mod Expressions
mod Statements
mod Functions
mod Handled
mod WatchedRuns
mod Weights
mod WeighedExpressions
mod WeighedStatements
mod WeighedFunctions
mod Costs
mod Fields
mod CheckedFields
