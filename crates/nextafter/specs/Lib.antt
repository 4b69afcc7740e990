pub mod NextPattern
