-- Laws that belong to no one function.
pub mod Waits
pub mod Solved
pub mod Planned
pub mod Ended
pub mod Chains
pub mod Determined
pub mod PlanDetermined
pub mod Demand1
pub mod PlanDemand1
pub mod Examples
pub mod PlanExamples
