pub mod Digits
pub mod Items
pub mod Lines
pub mod Names
