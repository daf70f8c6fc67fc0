pub mod Laws
pub mod Adds
pub mod Starts
