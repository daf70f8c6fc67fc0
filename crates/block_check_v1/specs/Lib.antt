pub mod Promise
pub mod OneOutcome
pub mod Walk
