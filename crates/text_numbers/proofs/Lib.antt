mod Limits
mod Placing
pub mod Reading
mod Writing
pub mod Parts
pub mod RoundTrip
