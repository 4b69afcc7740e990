pub mod Rule
pub mod Steps
pub mod Sweeps
pub mod Wholes
