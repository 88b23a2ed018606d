pub mod Names
pub mod Setting
pub mod Whole
