pub mod StartFiles
pub mod Digits
pub mod Lines
pub mod Observations
pub mod PartialStarts
pub mod StartAnswers
pub mod Traces
