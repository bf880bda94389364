pub mod Blocks
pub mod Counting
pub mod Layouts
pub mod Slots
