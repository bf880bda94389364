pub mod CountLemmas
pub mod EntryForms
pub mod FaultLemmas
pub mod LabelSetLemmas
pub mod NextLemmas
pub mod SectionForms
