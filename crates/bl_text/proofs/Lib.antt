pub mod DecimalTexts
pub mod Decimals
pub mod ItemLemmas
pub mod LineSplits
pub mod LineTexts
pub mod ModuleNames
