-- Laws that belong to no one function.
pub mod Header
pub mod Held
pub mod Slots
pub mod Facts
pub mod Kept
pub mod InUse
pub mod Cache
pub mod Opened
