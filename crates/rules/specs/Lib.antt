-- How a call edits the live pieces, and what is proved of it.
pub mod Between
pub mod Editing
