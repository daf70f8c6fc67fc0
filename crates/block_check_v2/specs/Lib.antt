pub mod Walk
pub mod Promise
pub mod OneOutcome
pub mod Laws
