pub mod MemoryTexts
mod WorkedOutcomes
