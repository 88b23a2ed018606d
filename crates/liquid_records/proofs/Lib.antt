pub mod Dots
pub mod Making
pub mod Named
pub mod Over
pub mod Runs
pub mod Within
