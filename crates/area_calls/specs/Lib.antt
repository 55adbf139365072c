-- What the calls over an area mean.
pub mod Calls
pub mod Asking
