pub mod Apart
pub mod Doubling
pub mod Kept
pub mod Middles
pub mod Nearest
pub mod Ratios
