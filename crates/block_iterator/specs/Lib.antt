pub mod Says
pub mod Promise
pub mod OneOutcome
pub mod Parts
