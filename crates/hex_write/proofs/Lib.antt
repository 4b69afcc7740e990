pub mod Answers
pub mod Exponents
pub mod Fractions
pub mod Puts
pub mod Sizes
pub mod Texts
pub mod Zeros
