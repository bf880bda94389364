pub mod Beside
pub mod BesideStores
pub mod LinkedTypes
pub mod LinkedApart
