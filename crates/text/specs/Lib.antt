pub mod Bytes
pub mod Fields
pub mod Lines
pub mod Print
pub mod Read
