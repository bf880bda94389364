pub mod EqualTypes
pub mod NamedLemmas
pub mod LeadsLemmas
pub mod LimitLemmas
pub mod OpenConstructLemmas
pub mod ReachedLemmas
pub mod IndexMapLemmas
mod WorkedModules
pub mod SequenceLemmas
pub mod SpellingLemmas
mod WorkedTypings
pub mod LocalCounts
pub mod SpelledGlobals
pub mod BodyTypings
pub mod NestingDepths
pub mod MovedTypings
