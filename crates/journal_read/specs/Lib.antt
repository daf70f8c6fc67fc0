pub mod Reader
pub mod Promise
pub mod OneOutcome
pub mod Parts
pub mod Laws
