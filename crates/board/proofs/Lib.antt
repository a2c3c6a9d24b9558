-- Laws that belong to no one function.
pub mod Told
pub mod Numbers
pub mod Demand1
pub mod Determined
pub mod Demands
pub mod Examples
pub mod HistoryExample
