-- What the contracts of `figures` cite. Decimal, Signed, Hex, Laid; what is proved of them stands at the end of Decimal, of Signed and of Laid.
pub mod Decimal
pub mod Hex
pub mod Laid
pub mod Signed
