pub mod Answers
pub mod Decimals
pub mod Kinds
pub mod Laws
pub mod Named
pub mod Readings
pub mod Sums
pub mod Written
