-- The laws that the proofs of this and of the higher crates cite.
pub mod MoveLaws
