-- What the contracts of `change` cite.
pub mod Change
