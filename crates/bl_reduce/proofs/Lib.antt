pub mod CallItems
pub mod ControlItems
pub mod MemoryItems
pub mod NumericItems
pub mod Places
pub mod Ready
pub mod Soundness
pub mod VariableItems
mod WorkedBlocks
mod WorkedItems
pub mod WorkedLinked
mod WorkedRuns
pub mod WorkedTrees
pub mod RenamedParts
