-- Laws that belong to no one function.
pub mod Found
pub mod Spelt
