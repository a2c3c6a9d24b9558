-- Laws that belong to no one function.
pub mod Costs
pub mod Fits
pub mod Goals
pub mod Entries
pub mod Kept
pub mod Judged
pub mod Valid
