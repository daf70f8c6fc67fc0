pub mod Promise
pub mod OneOutcome
pub mod Reading
