pub mod Digits
pub mod Fields
pub mod Placed
pub mod Written
