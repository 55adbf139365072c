-- The customer's theorems on the calls with a summary.
pub mod Summaries
