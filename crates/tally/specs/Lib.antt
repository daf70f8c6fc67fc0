pub mod Tally
pub mod Says
pub mod Parts
pub mod Promise
pub mod OneOutcome
pub mod Laws
pub mod Cases
