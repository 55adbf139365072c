-- What the contracts of `pieces` cite, and what is proved of it.
pub mod Pieces
pub mod Words
