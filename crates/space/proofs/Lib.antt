-- The laws that the proofs of this and of the higher crates cite.
pub mod OutcomeLaws
pub mod OpenLaws
pub mod PlaceLaws
pub mod GiveLaws
pub mod ListLaws
