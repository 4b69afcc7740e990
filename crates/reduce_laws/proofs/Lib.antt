-- A reducer for the divisor n keeps the remainder as a product, over words of any width.
pub mod Bounds
pub mod Only
pub mod Rounds
pub mod Scales
pub mod Starts
pub mod Steps
pub mod Widths
