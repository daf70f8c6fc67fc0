pub mod Run
pub mod Sums
pub mod Parts
pub mod Cut
pub mod ReadsBack
pub mod Balances
pub mod Instances
