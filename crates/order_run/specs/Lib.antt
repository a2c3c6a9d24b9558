pub mod Lent
pub mod Orders
pub mod Run
