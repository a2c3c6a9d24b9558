-- Laws that belong to no one function.
pub mod Marks
pub mod LineTexts
pub mod Joined
pub mod Whole
pub mod Drawn
pub mod Examples
pub mod EachDrawn
