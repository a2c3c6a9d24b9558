-- Laws that belong to no one function.
pub mod Demand1
pub mod Examples
pub mod Opened
pub mod OpenedKinds
pub mod Opening
