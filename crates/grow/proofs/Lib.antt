-- Laws that belong to no one function.
pub mod Slots
pub mod Choices
pub mod Pushed
pub mod PushedAll
pub mod Goals
pub mod Visited
pub mod Tickets
pub mod Room
pub mod Kept
pub mod Growing
pub mod Examples
