pub mod Agrees
pub mod Toolchain
