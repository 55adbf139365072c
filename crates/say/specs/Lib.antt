-- What the contracts of `say` cite: what keeps it safe (Rows), and what `Display` writes of words and of bytes (Shown).
pub mod Rows
pub mod Shown
