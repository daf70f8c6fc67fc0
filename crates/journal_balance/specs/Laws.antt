pub mod Walk
pub mod Loops
pub mod Counts
pub mod Tree
