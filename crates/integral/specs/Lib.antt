pub mod Directed
pub mod Point
