pub mod Handed
pub mod Laws
pub mod Joined
pub mod Says
pub mod Promise
pub mod OneOutcome
