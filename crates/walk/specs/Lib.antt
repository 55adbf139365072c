-- What the contracts of `walk` cite, and what `sound` asks of a walk over all entries.
pub mod Walk
