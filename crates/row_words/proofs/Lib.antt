pub mod Laws
pub mod Stores
pub mod Fields
pub mod Counted
