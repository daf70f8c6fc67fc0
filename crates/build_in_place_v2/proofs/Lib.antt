pub mod Tests
pub mod Finds
pub mod Plain
pub mod Writes
