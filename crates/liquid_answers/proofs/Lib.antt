pub mod Faults
pub mod Fronts
pub mod Listed
pub mod LackingCalls
