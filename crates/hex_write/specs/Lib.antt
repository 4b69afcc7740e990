pub mod Parts
pub mod Put
pub mod Wrote
