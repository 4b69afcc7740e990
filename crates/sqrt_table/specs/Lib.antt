pub mod Guess
pub mod Residual
pub mod Table
