pub mod FirstPass
pub mod SecondPass
pub mod Lowering
pub mod Outlines
pub mod NumberBounds
pub mod Tables
pub mod Trees
pub mod CodeStates
