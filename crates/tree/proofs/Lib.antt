-- Laws that belong to no one function.
pub mod Parts
pub mod Form
pub mod Determined
pub mod Same
pub mod Waiting
pub mod Popped
pub mod Closed
pub mod Counted
pub mod Goals
pub mod Added
