pub mod Counts
pub mod Balance
pub mod Promise
pub mod OneOutcome
pub mod Parts
pub mod Tree
pub mod Laws
