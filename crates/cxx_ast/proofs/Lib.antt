pub mod Worked
pub mod Settled
pub mod Rows
pub mod Positions
pub mod FindingLaws
pub mod KindLaws
pub mod ScopesBehind
