-- What the contracts of `totals` cite.
pub mod Summary
pub mod Counting
pub mod Described
