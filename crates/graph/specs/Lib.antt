pub mod Sort
pub mod Write
