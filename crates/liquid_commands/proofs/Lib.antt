pub mod Endings
pub mod PathParts
pub mod Pushed
pub mod Standing
pub mod Turns
