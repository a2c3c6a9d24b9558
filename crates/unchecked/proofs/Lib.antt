-- Laws that belong to no one function.
pub mod Nodes
pub mod ShownNode
pub mod Advanced
pub mod Records
pub mod RetracedNode
pub mod Retraced
pub mod Waits
pub mod Solved
pub mod Underway
pub mod JustOpened
pub mod Running
