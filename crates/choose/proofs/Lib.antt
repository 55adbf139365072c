-- The laws that the proofs of this and of the higher crates cite.
pub mod ChooseLaws
pub mod WalkLaws
pub mod BestLaws
pub mod PlaceForLaws
pub mod LiesLaws
