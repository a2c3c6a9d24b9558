pub mod Drawing
pub mod Draw
pub mod Puts
