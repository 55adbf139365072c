-- What a table means: the table that live pieces determine, the sound tables, and what is proved of them.
pub mod Fill
pub mod Sound
pub mod Local
pub mod Theorems
