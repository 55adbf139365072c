-- What the contracts of `pages` cite, and what is proved of it.
pub mod Pages
pub mod Same
