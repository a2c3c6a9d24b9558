-- Laws that belong to no one function.
pub mod Stored
pub mod NewTree
pub mod Planted
pub mod NewTrees
pub mod Planting
pub mod Table
pub mod PlanRoot
pub mod Roots
pub mod Plans
