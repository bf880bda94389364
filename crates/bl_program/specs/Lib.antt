pub mod Layout
pub mod Outcomes
pub mod Programs
pub mod Rules
pub mod Sites
pub mod Steps
pub mod Widths
