pub mod Words
pub mod Says
pub mod Promise
pub mod OneOutcome
