pub mod Near
pub mod Round
