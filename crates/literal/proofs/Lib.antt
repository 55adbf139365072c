-- The laws that the proofs of the higher crates cite.
pub mod ChangedChains
pub mod AllocateLaws
pub mod Allocate
pub mod MergeLaws
pub mod NamedPiece
pub mod Release
pub mod Extend
pub mod Shorten
pub mod Statements
pub mod Example
