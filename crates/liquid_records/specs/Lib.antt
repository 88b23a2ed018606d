pub mod FileNames
pub mod Records
pub mod Runs
pub mod Steps
pub mod Messages
pub mod Views
pub mod inside
