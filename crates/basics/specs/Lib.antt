pub mod Number
pub mod Says
pub mod Answers
pub mod Promise
pub mod OneOutcome
