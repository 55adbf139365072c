-- What the contracts of `choose` cite, and what is proved of it.
pub mod Choose
pub mod Walk
pub mod Place
