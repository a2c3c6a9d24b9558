-- The laws that the proofs of this crate's functions cite.
pub mod First
pub mod LookedUp
pub mod Entries
pub mod Held
pub mod Turning
pub mod Fits
pub mod Grown
pub mod Round
pub mod Walked
