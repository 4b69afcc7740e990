pub mod Location
pub mod Flags
pub mod Aligned
