pub mod Walk
pub mod Says
pub mod Loop
pub mod Promise
pub mod OneOutcome
