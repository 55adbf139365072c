-- The laws that the proofs of this crate cite.
pub mod WalkLaws
pub mod ZeroLaws
