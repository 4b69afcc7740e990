-- Definitions for the contracts of the reducers, over the width of their words.
pub mod Reducer
