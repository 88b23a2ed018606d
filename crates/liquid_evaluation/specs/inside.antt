pub mod Arguments
pub mod Comparisons
pub mod Forgiveness
