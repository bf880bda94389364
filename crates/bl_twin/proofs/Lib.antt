pub mod Comparisons
pub mod PrefixLengths
pub mod CommonPrefixes
pub mod PublicLists
pub mod TwinRuns
