-- Laws of the class of a request, comparison by comparison.
use Prim.Native.Nat.{ℕ, ◌≤◌, ◌<◌}
use mathlib.Core.Path.{◌≡◌, sym}
use borrow.Author.Tests.{le-leb, lt-leb, eq-eqb, ne_eqb}
use Rattle.pages.proofs.Numbers.{split}
use Rattle.pieces.proofs.PieceLaws.{large_small}
use Rattle.pieces.specs.Pieces.{Small}
use Rattle.pieces.specs.declared.Class.TheVariants.{SmallMetadata, SmallRaw, Large}
use Rattle.requests.specs.Requests.{metadata_code, class_for}

-- ---- a request

pub class_large : (P t s : ℕ) → P ≤ s → class_for P t s ≡ Large
unfolding class_for
class_large P t s h = rw (le-leb P s h)

pub class_metadata : (P t s : ℕ) → s < P → t ≡ metadata_code → class_for P t s ≡ SmallMetadata
unfolding class_for
class_metadata P t s h e = rw (lt-leb P s h, eq-eqb t metadata_code e)

pub class_raw : (P t s : ℕ) → s < P → (t ≡ metadata_code → ⊥) → class_for P t s ≡ SmallRaw
unfolding class_for
class_raw P t s h e = rw (lt-leb P s h, ne_eqb t metadata_code e)

pub class_small : (P t s : ℕ) → Small (class_for P t s) → s < P
class_small P t s h = split P s (λ l. absurd (large_small h (sym (class_large P t s l)))) (λ l. l)
