pub mod Files
pub mod Outcomes
pub mod Read
pub mod Words
pub mod Written
