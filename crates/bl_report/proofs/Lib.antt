pub mod FirstPaths
pub mod ProtectReasons
pub mod ProtectedSites
mod ReportLines
