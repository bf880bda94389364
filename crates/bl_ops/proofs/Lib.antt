pub mod AccessLemmas
pub mod Bits
pub mod Codes
pub mod Fits
pub mod Shifts
pub mod Signed
