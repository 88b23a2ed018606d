pub mod PathView
pub mod Replaced
