pub mod Changes
pub mod Differing
pub mod Found
pub mod Fresh
pub mod Keeping
pub mod Needed
