pub mod SiteTables
pub mod Reports
pub mod Verdicts
