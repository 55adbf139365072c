-- The proofs of the statements in specs/, and the laws that they share.
pub mod Lists
pub mod LiveLaws
pub mod Refusals
pub mod Keeps
pub mod Edits
pub mod Placing
pub mod ConditionLaws
pub mod Names
pub mod Exactly
pub mod Listings
pub mod AnyOrder
pub mod Run
pub mod OneResult
