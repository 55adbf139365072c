-- What the contracts of `running` cite.
pub mod Replacing
