-- The laws that the proofs of the higher crates cite.
pub mod AnswerLaws
