-- Laws of lists that name none of our words: membership under a permutation.
--
--   perm_among        a permutation has the same members
--   perm_length       and as many
--
-- Not here: laws of `List.Memᴰ` and `List.Permᴰ` themselves (mathlib.Core.List). Assumes nothing.
use Prim.Native.Nat.{suc}
use mathlib.Core.List.{List, Memᴰ}
use mathlib.Core.List.{Permᴰ}
use mathlib.Core.Path.{◌≡◌, refl, sym, ap, ◌∙◌}
use lib.ListN.{length}

module _ {A : Type 0} where
  pub perm_among : {x : A} {l m : List A} → Permᴰ l m → Memᴰ x m → Memᴰ x l
  perm_among Permᴰ.nil h = h
  perm_among (Permᴰ.cons e d) (Memᴰ.head q) = Memᴰ.head (q ∙ sym e)
  perm_among (Permᴰ.cons e d) (Memᴰ.tail h) = Memᴰ.tail (perm_among d h)
  perm_among (Permᴰ.swap e f) (Memᴰ.head q) = Memᴰ.tail (Memᴰ.head (q ∙ sym f))
  perm_among (Permᴰ.swap e f) (Memᴰ.tail (Memᴰ.head q)) = Memᴰ.head (q ∙ sym e)
  perm_among (Permᴰ.swap e f) (Memᴰ.tail (Memᴰ.tail h)) = Memᴰ.tail (Memᴰ.tail h)
  perm_among (Permᴰ.trans d e) h = perm_among d (perm_among e h)

  pub perm_length : {l m : List A} → Permᴰ l m → length l ≡ length m
  perm_length Permᴰ.nil = refl
  perm_length (Permᴰ.cons e d) = ap suc (perm_length d)
  perm_length (Permᴰ.swap e f) = refl
  perm_length (Permᴰ.trans d e) = perm_length d ∙ perm_length e
