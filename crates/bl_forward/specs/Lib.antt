pub mod ForwardMachines
pub mod LastStores
pub mod SameSights
pub mod SightTexts
pub mod Verdicts
