-- Where document 01's rule puts a request.
pub mod Places
