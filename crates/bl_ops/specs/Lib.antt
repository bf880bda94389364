pub mod Access
pub mod GroupMeanings
pub mod Integer
pub mod Numerics
pub mod OperatorTable
