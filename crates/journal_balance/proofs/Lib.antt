pub mod Named
pub mod One
