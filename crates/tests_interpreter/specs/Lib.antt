pub mod MemoryTrees
pub mod TableTrees
