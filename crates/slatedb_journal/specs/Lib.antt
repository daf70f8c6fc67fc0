pub mod Flat
pub mod Promise
pub mod OneOutcome
