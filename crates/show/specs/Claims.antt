-- Claims that are counted, and what a test tells.
--
--   largest_number    the largest number of 64 bits
--   one_more n        one more, up to it
--   no_claims         no claim
--   counted t held    one claim more, and one failure more where it does not hold
--   Tells b A         b is true exactly when A holds
use Rattle.std.specs.Prelude.{◌≡◌, Bool, true, cond, ℕ, ◌+◌, ltb}
use Rattle.show.specs.declared.claim.Tally.{Tally}

abbrev pub largest_number : ℕ
largest_number = 18446744073709551615

abbrev pub one_more : ℕ → ℕ
one_more n = cond (ltb n largest_number) (n + 1) n

abbrev pub no_claims : Tally
no_claims = record { claims = 0; failures = 0 }

unfoldable pub counted : Tally → Bool → Tally
counted t held = record { claims = one_more t.claims; failures = cond held t.failures (one_more t.failures) }

abbrev pub Tells : Bool → Type 0 → Type 0
Tells b A = (b ≡ true → A) × (A → b ≡ true)
