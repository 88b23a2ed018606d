pub mod Blanks
pub mod Counted
pub mod Engines
pub mod Findings
pub mod Rounds
pub mod Silence
pub mod Views
pub mod inside
