-- Laws that belong to no one function.
pub mod Histories
pub mod Initialized
pub mod Stepped
pub mod Retraced
pub mod Demand1
pub mod Demands
pub mod Determined
pub mod Examples
pub mod HistoryExample
