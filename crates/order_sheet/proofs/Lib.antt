-- Laws that belong to no one function.
pub mod Whole
pub mod Table
