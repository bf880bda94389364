pub mod Facts
pub mod SecretSearch
pub mod Leaks
pub mod Verdicts
