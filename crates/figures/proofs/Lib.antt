-- The laws of `figures`, one file for each file of specs/.
pub mod DecimalLaws
pub mod LaidLaws
pub mod HexLaws
pub mod SignedLaws
