pub mod Handed
pub mod Reading
pub mod Says
pub mod Promise
pub mod OneOutcome
pub mod Laws
