-- The room behind a piece, and what remains of it.
pub mod Conditions
pub mod Room
