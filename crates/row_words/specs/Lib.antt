pub mod Words
pub mod Flat
pub mod Says
pub mod Promise
pub mod OneOutcome
