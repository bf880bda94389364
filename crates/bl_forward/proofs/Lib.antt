pub mod ReadyStores
pub mod FindLemmas
pub mod ForwardPairs
pub mod ForwardInvariant
pub mod ExecutionLemmas
