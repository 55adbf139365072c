-- What the contracts of `log_check` cite.
pub mod Check
