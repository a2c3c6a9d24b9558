pub mod Whole
pub mod Sheet
