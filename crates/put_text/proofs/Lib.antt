-- Laws that belong to no one function.
pub mod Decimals
pub mod GraphLines
pub mod Puts
