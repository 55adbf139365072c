-- The laws that the proofs of `say` cite.
pub mod MapLaws
pub mod ShownLaws
