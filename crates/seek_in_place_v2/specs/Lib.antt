pub mod Says
pub mod Lent
pub mod Promise
pub mod OneOutcome
pub mod Parts
