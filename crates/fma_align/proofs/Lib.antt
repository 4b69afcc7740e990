pub mod Joins
pub mod Alignments
