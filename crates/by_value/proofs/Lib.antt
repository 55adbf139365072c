-- The laws that the proofs cite.
pub mod WithLaws
pub mod ChangeLaws
