pub mod Aligned
pub mod Fused
