pub mod Says
pub mod Promise
pub mod Exports
pub mod Again
pub mod OneOutcome
