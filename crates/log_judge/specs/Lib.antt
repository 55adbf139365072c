-- What the contracts of `log_judge` cite.
pub mod Judged
pub mod Carried
