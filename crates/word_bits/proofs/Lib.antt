-- Lemmas on plain numbers that the functions' proofs cite.
pub mod TwoShifts
