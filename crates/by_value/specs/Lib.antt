-- The calls with a summary.
pub mod Told
pub mod With
pub mod Change
