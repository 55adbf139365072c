-- What request E6 says of a log and of its judgement.
pub mod Recording
pub mod Logs
