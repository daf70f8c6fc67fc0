pub mod Regions
pub mod Says
pub mod Promise
pub mod OneOutcome
pub mod Count
pub mod Laws
