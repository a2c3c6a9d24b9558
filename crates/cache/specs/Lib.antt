pub mod Open
pub mod Demand1
