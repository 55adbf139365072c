-- What the contracts of `replay` cite.
pub mod Reading
