-- What the contracts of the test programs' library cite.
pub mod Answers
pub mod Claims
pub mod Scenes
pub mod Words
