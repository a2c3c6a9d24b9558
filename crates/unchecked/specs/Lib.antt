pub mod Shown
pub mod Step
pub mod Solve
pub mod Retrace
pub mod Run
