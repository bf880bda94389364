pub mod Entries
pub mod EntryLaws
pub mod Faults
pub mod LabelSets
pub mod LabelledPlaces
pub mod LabelAnswers
