-- Lemmas on the list call's definition that the contracts need, over the format, the operation and the limit.
pub mod Filling
pub mod Numbers
pub mod Operations
