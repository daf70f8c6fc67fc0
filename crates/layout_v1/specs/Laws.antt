pub mod Joined
pub mod Codec
pub mod Block
pub mod Made
pub mod Check
