-- What the contracts of `message` cite. Read Layout, Fields and Legal of `message_fields`, Tail and Parts of `message_bytes`, then Message. What is
-- proved of it is in `message_promises`.
pub mod Message
