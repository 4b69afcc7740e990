pub mod Bits
pub mod Decoded
pub mod Normals
pub mod Attributes
pub mod Numbers
pub mod Widths
