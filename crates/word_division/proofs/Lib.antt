pub mod Digits
pub mod LongDivision
pub mod Only
