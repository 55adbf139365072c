-- Two lists of words, compared word by word.
--
--   agreed v w      the index of the first word that differs; the length of the shorter one, where there is none
use Rattle.std.specs.Prelude.{List, ℕ, nat_eq}
use Rattle.std.specs.List.{prefix_len, zip}

abbrev pub agreed : List ℕ → List ℕ → ℕ
agreed v w = prefix_len (λ (p : ℕ × ℕ). nat_eq p.0 p.1) (zip v w)
