-- The numbered refusals of document 01 and of the requests, and what the calls on a space answer in them.
pub mod AnswerNumbers
pub mod NeverZero
