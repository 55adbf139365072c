-- What is proved of the message. Read Message of `message` before, then Promises, and stop.
pub mod Promises
