-- The laws that the proofs of this crate cite, and those of `message_promises`.
pub mod AnswerLaws
