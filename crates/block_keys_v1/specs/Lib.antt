pub mod Says
pub mod Handed
pub mod Promise
pub mod OneOutcome
pub mod Parts
pub mod Laws
