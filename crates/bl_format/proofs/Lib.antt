pub mod Chains
pub mod LengthLemmas
pub mod WriterLemmas
pub mod OperandLists
pub mod Additions
pub mod SpellableParts
pub mod ImageExistence
pub mod ImageWidths
