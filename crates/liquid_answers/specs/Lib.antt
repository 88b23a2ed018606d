pub mod Answering
pub mod Lacking
pub mod Own
pub mod Sets
pub mod Sites
pub mod Tables
pub mod inside
