pub mod Going
pub mod Read
