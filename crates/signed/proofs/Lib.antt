-- The one proof of all that the customer signs on.
pub mod Signed
