-- What the contracts of `edit` cite, and what is proved of it.
pub mod New
pub mod Edit
