pub mod PublicAgreement
pub mod TwinComparisons
pub mod SameObservations
pub mod Runs
