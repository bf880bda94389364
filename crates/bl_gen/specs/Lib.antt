pub mod AcceptedModules
pub mod GeneratedModule
