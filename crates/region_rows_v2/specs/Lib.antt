pub mod Found
pub mod Bounds
pub mod Region
pub mod Promise
pub mod OneOutcome
