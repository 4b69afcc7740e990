pub mod Asides
pub mod InUnits
pub mod Packs
pub mod Ranges
pub mod Significands
pub mod Sorts
pub mod Zeros
