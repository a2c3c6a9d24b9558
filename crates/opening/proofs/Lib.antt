-- Laws that belong to no one function.
pub mod Goals
pub mod Opened
pub mod Initialized
