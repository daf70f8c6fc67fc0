pub mod Local
pub mod Reads
pub mod Laid
pub mod Walk
pub mod Accept
pub mod Sought
