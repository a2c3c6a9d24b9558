-- Laws that belong to no one function.
pub mod Buckets
pub mod Gathers
pub mod Index
pub mod Keys
pub mod Lengths
pub mod LineWords
pub mod Lines
pub mod Ordered
pub mod Parts
pub mod Tables
pub mod Tallies
pub mod Written
pub mod Choices
