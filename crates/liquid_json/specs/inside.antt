pub mod Copies
pub mod Planned
pub mod Skipped
pub mod Tokens
