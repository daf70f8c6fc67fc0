pub mod Ahead
pub mod Promise
pub mod OneOutcome
