pub mod StartFits
pub mod HexBytes
pub mod Operands
pub mod TextPieces
pub mod LineLemmas
pub mod StartLemmas
pub mod WrittenTraces
