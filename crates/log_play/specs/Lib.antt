-- What the contracts of `log_play` cite.
pub mod Playing
pub mod Lent
