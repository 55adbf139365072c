-- The customer's theorems on the calls: Demands.antt is the file to read first.

pub mod Calls
pub mod Run
pub mod Rows
pub mod Demands
