pub mod Layouts
mod WorkedExamples
pub mod ValueLists
pub mod Totals
pub mod VariableSums
pub mod ProtectedWeights
pub mod BrokenRules
pub mod Entries
pub mod ByteAgreement
pub mod AppendLemmas
pub mod VariableBounds
pub mod WeightSums
pub mod OwnProtects
pub mod SiteOperands
