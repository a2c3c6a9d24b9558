pub mod Layout
pub mod Words
pub mod Read
pub mod Slots
pub mod Sound
pub mod Held
pub mod Leaves
pub mod Planted
