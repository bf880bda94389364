pub mod Bytes
pub mod Fits
pub mod Quantity
pub mod Runs
pub mod Sites
pub mod Sums
pub mod Trap
