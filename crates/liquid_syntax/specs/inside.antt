pub mod BlankNodes
pub mod Calls
pub mod Mentions
pub mod NameVisitors
pub mod OwnNodes
