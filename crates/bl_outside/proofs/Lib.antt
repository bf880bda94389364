pub mod ReadTwice
pub mod Shelves
