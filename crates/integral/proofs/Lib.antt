mod Scaled
mod WholeParts
pub mod Choices
pub mod Directions
pub mod Masks
pub mod Method
pub mod Modfs
pub mod Raises
