-- The laws that the proofs of this crate cite, and last the theorems of specs/Promises.antt.
pub mod RuleLaws
pub mod SaysLaws
pub mod Promised
