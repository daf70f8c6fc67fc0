pub mod Parts
pub mod Promise
pub mod OneOutcome
