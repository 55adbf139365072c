-- The proofs of the statements in specs/, and the tie that they go by.
pub mod Tied
pub mod Summaries
