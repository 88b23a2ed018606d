pub mod Readings
pub mod Takes
pub mod Texts
