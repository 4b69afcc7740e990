pub mod Scanned
pub mod Found
