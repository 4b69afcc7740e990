pub mod Folds
pub mod Stuck
pub mod Told
