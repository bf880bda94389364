pub mod ConstructLemmas
pub mod CoverLemmas
pub mod LabelLemmas
pub mod ModuleRuleLemmas
pub mod OperandLemmas
pub mod Reasons
pub mod Spaces
