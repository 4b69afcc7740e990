pub mod Mark
pub mod Outcome
