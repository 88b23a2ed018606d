pub mod Extents
pub mod Reports
pub mod Watches
