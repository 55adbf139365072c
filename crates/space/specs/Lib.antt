-- What the calls mean. Read Outcomes, Opening, Placing, Giving, Listing, in document 01's order.
pub mod Outcomes
pub mod Opening
pub mod Placing
pub mod Giving
pub mod Listing
pub mod Said
pub mod Halves
