-- Laws that belong to no one function.
pub mod Within
pub mod Sizes
pub mod Texts
pub mod Bounds
pub mod Driven
pub mod Right
pub mod Called
