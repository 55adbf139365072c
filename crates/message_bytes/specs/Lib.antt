-- What the contracts of `message_bytes` cite, and those of `message`.
pub mod Tail
pub mod Parts
