-- What a request names.
pub mod Requests
