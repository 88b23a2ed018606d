pub mod Lines
pub mod Paths
pub mod Stops
pub mod Words
