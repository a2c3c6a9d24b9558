pub mod Solve
pub mod Plan
