pub mod Arrivals
pub mod LinkLemmas
pub mod ListLemmas
pub mod Places
pub mod Questions
pub mod Sets
pub mod Steps
pub mod Ways
