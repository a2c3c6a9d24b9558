-- Laws that belong to no one function.
pub mod Directions
pub mod Edges
pub mod Members
pub mod Places
pub mod Sizes
pub mod SlotWords
pub mod StartCosts
pub mod Trees
pub mod Same
pub mod Examples
