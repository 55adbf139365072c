-- The laws of Line.
pub mod LineLaws
