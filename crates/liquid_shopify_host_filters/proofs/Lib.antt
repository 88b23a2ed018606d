pub mod CodecLaws
pub mod Decoded
pub mod Faults
pub mod Lasts
pub mod Places
pub mod SumLaws
pub mod WordLaws
pub mod Wordings
