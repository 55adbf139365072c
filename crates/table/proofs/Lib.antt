-- The laws that the proofs of this and of the higher crates cite.
pub mod GapLaws
pub mod LivesLaws
pub mod Chain
pub mod ChainLaws
pub mod Canon
pub mod Build
pub mod Literal
pub mod LocalLaws
pub mod TilingLaws
pub mod Theorems
