pub mod Fmods
pub mod Reductions
