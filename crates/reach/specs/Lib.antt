pub mod Reach
pub mod Walk
