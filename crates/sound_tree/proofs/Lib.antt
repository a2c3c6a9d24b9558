-- Laws that belong to no one function.
pub mod Ranges
pub mod Zeros
pub mod Nodes
pub mod Marks
pub mod QueueTests
pub mod Waiting
pub mod Closers
pub mod LeastCosts
pub mod Edges
pub mod Tables
pub mod TreeTests
