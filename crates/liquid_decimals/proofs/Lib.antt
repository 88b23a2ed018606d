pub mod Beyond
pub mod Fractions
pub mod Grouping
pub mod Quotients
pub mod ReadBack
