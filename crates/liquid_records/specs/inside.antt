pub mod Covered
pub mod Dots
pub mod Puts
