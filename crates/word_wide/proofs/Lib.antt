mod Columns
pub mod Only
pub mod Pairs
pub mod Shifts
