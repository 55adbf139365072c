-- What the contracts of `log_blocks` cite.
pub mod Records
pub mod Blocks
