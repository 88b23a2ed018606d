pub mod Page
pub mod PageLaw
pub mod Shown
