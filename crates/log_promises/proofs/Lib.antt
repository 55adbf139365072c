-- The laws that the proofs of this and of the higher crates cite.
pub mod PlayedLaws
pub mod JudgingLaws
pub mod Judging
pub mod Openings
pub mod WritingLaws
pub mod Blocks
pub mod RoomLaws
pub mod RunLaws
pub mod Recorded
pub mod TheLog
pub mod Cut
