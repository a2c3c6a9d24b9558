pub mod Board
pub mod Demands
