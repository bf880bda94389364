pub mod Reachability
pub mod Transient
pub mod Verdicts
