-- Laws that belong to no one function.
pub mod Demands
pub mod Example
