pub mod Commands
pub mod LaidRuns
pub mod Placings
pub mod Tables
pub mod WorkedRuns
