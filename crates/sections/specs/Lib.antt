-- What a listing writes.
pub mod Sections
pub mod Order
