pub mod Width
pub mod Layout
pub mod Normal
pub mod Raised
pub mod Refused
pub mod Numbered
