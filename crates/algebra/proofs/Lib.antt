pub mod Integers
pub mod Leading
pub mod Powers
pub mod Products
pub mod Quotients
pub mod Roots
