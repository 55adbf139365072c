-- How an accepted change ends.
pub mod Settle
