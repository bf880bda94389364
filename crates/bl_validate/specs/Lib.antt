pub mod HasEffect
pub mod MayStand
pub mod ModuleRules
pub mod Represents
pub mod Scopes
pub mod Verdicts
