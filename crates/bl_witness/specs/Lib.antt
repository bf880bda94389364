pub mod Fields
pub mod LookupAnswers
pub mod Shapes
pub mod Taken
pub mod Texts
pub mod Tokens
pub mod Values
pub mod Verdicts
