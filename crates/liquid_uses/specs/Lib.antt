pub mod Covered
pub mod PathReading
pub mod Paths
pub mod Together
pub mod inside
