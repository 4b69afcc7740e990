-- Lemmas on the reduction's definition that the contracts need, over the width of the words.
pub mod Numbers
