-- What the contracts of `script` cite. What is proved of it stands at the end of Line.
pub mod Line
