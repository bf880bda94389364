pub mod Constructs
pub mod Laws
pub mod ReaderAnswers
pub mod Shapes
pub mod Types
pub mod Unique
