pub mod Facts
pub mod Search
pub mod Tables
pub mod Verdicts
