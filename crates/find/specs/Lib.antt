-- What the contracts of `find` cite, and what is proved of it.
pub mod Find
pub mod Walk
