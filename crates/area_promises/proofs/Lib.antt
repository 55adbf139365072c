-- The proofs of what is signed of the calls over an area.
pub mod WordLaws
pub mod Areas
