pub mod Number
pub mod Record
pub mod Promise
pub mod OneOutcome
pub mod Laws
