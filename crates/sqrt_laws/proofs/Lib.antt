pub mod Cubes
pub mod Roundoffs
pub mod Lasts
pub mod Rounds
pub mod Steps
