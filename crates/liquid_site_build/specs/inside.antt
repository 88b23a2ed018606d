pub mod ChainViews
pub mod Parts
pub mod Runs
