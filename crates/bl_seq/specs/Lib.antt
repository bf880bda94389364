pub mod FinalMemories
pub mod RegisterTrees
pub mod Layouts
pub mod Machines
pub mod InitialMemories
pub mod OwnMemory
pub mod FirstItems
pub mod Windows
