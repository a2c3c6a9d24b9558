-- Laws that belong to no one function.
pub mod Filled
pub mod Stores
pub mod Tags
pub mod Judged
pub mod Inverse
pub mod Examples
