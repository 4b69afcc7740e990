pub mod Choices
pub mod Locations
pub mod Halves
pub mod Insides
pub mod Parts
pub mod Alignments
pub mod Stretched
pub mod Flagged
