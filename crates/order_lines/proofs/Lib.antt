-- Laws that belong to no one function.
pub mod Examples
pub mod Lists
pub mod OrderFields
pub mod Words
