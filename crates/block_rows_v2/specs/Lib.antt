pub mod Rows
pub mod Promise
pub mod OneOutcome
pub mod Says
pub mod Chain
pub mod Calls
