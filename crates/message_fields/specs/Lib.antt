-- What the contracts of `message_fields` cite, and those of the crates above.
pub mod Layout
pub mod Fields
pub mod Legal
