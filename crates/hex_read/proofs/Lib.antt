pub mod Scans
pub mod Marked
pub mod Exponents
pub mod Texts
pub mod Numbers
pub mod Numerals
pub mod Answers
