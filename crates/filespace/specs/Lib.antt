-- What the contracts of `filespace` cite: only what keeps the program safe. What its calls do is said by `space`, `message`, `script` and `figures`.
pub mod Lent
