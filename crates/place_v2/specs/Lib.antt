pub mod Says
pub mod Promise
pub mod Parts
pub mod OneOutcome
