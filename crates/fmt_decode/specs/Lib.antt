pub mod Aside
pub mod Classes
pub mod Rows
pub mod Significand
