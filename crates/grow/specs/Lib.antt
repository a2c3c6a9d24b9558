pub mod Grow
