-- What the contracts of `call` cite.
pub mod Answered
