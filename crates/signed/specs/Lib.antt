-- All that the customer signs on.
pub mod Signed
