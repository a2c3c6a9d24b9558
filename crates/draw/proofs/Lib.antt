-- Laws that belong to no one function.
pub mod Pictures
pub mod Examples
