-- The laws that the proofs of this and of the higher crates cite.
pub mod DecadeLaws
pub mod TallyLaws
pub mod CountLaws
pub mod MovedLaws
pub mod AgreeLaws
pub mod Described
