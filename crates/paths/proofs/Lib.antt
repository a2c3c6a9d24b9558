-- Laws that belong to no one function.
pub mod Steps
pub mod Written
pub mod Parents
pub mod Counted
pub mod Backtracked
pub mod Hung
