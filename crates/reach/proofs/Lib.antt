pub mod Marks
pub mod Exactly
pub mod Examples
pub mod Listing
pub mod Starts
pub mod Ends
pub mod Taken
