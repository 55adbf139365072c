-- One byte more of what is laid into a buffer; a number is laid in one way alone.
-- Not here: laws of `paste` (lib.Seq).
use Prim.Native.Nat.{ℕ, ◌+◌, ◌<◌}
use mathlib.Core.List.{List}
use mathlib.Core.Path.{◌≡◌, sym, ap, ◌∙◌}
use native.Mathlib.Numerals.{add-one}
use lib.ListN.{length, get_or, set}
use lib.Seq.{paste, paste-suc}
use Rattle.io.specs.Digits.{last_digits}
use Rattle.figures.proofs.DecimalLaws.{fewest_unique}
use Rattle.figures.specs.Laid.{OneLaid}

-- e is d with the first i bytes of s laid at a place; k is the place of the next one
pub laid_next : (d s : List ℕ) (at i : ℕ) {e : List ℕ} {k v : ℕ} → e ≡ paste d at s i → k ≡ at + i → at + i < length d → i < length s
    → v ≡ get_or s i 0 → set e k v ≡ paste d at s (i + 1)
laid_next d s at i he hk room among hv = rw (he, hk, hv, add-one) (paste-suc d at s i 0 room among)

pub one_laid : OneLaid
one_laid d at n r s e f a b =
    let same : last_digits 10 a.places n ≡ last_digits 10 b.places n =
    ap (λ (k : ℕ). last_digits 10 k n) (fewest_unique n a.places b.places a.fewest b.fewest) in (
      a.laid.place ∙ (ap (λ (x : List ℕ). at + length x) same ∙ sym b.laid.place),
      a.laid.buffer ∙ (ap (λ (x : List ℕ). paste d at x (length x)) same ∙ sym b.laid.buffer),
    )
