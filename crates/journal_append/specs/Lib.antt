pub mod Append
pub mod Promise
pub mod OneOutcome
pub mod Parts
pub mod Laws
