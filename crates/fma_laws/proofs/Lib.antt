pub mod Alignment
pub mod Forms
pub mod Fused
pub mod Joined
pub mod Made
pub mod Exponents
pub mod Room
pub mod Sums
