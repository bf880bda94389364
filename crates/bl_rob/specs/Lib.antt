pub mod CallResults
pub mod Effects
pub mod LastWriters
pub mod LoadPolicies
pub mod Machines
pub mod Observations
pub mod ReachableStates
pub mod Robs
