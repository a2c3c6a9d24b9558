-- Laws that belong to no one function.
pub mod Heap
pub mod Times
pub mod Keys
pub mod Move
pub mod Sift
pub mod Ends
