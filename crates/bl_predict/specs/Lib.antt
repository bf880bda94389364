pub mod Drives
pub mod Lines
pub mod Outlines
pub mod DriveDirectives
