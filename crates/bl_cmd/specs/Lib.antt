pub mod Entrants
pub mod Tables
pub mod Verdicts
