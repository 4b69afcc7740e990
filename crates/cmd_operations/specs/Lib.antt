pub mod Naming
pub mod Request
pub mod Table
