pub mod Faults
pub mod MemoryShelf
pub mod MemorySink
pub mod Opened
pub mod Reading
pub mod Shelf
pub mod Sink
