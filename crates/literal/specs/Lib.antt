-- Document 01's rules for the calls that change a table as steps over the entries, and what is proved of them.
pub mod Steps
pub mod Resizing
pub mod Statements
