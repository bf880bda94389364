pub mod Choices
pub mod Least
pub mod Marks
pub mod Network
