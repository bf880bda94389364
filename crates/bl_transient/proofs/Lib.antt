pub mod BarredUses
pub mod FirstSinks
pub mod UnprotectedWrites
pub mod TransientTypings
pub mod SearchMarks
pub mod ChainsMet
pub mod NamedSearch
pub mod LeastTypings
