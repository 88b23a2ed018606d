pub mod AskedLimits
