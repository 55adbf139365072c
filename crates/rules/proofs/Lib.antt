-- The laws that the proofs of this and of the higher crates cite.
pub mod RemoveLaws
pub mod InsertLaws
pub mod ChangeLaws
pub mod SpliceLaws
pub mod CountLaws
