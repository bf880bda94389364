pub mod WeighAnswers
pub mod CountFiles
pub mod RunCounts
pub mod RecordedRuns
pub mod PositionCounts
