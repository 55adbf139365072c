-- What is proved of the calls over an area.
pub mod Areas
