-- The table that an exported call lends: of its local words as many as the area has.
--
--   head_within                   the head lies within the area
--   lent_within, lent_long, lent  the words are there, they are so many, and they fit the area
use Prim.Native.Nat.{ℕ, ◌*◌, ◌≤◌}
use mathlib.Core.Bool.{Bool, true}
use mathlib.Core.List.{List}
use mathlib.Core.Path.{◌≡◌, sym}
use native.Mathlib.Omega.{arith}
use lib.ListN.{length, take}
use lib.Seq.{length-take-le}
use Rattle.area_bytes.proofs.AreaLaws.{area_fits, area_most}
use Rattle.area_bytes.specs.Area.{table_at, area_lengthb, table_words}
use Rattle.area_calls.specs.Calls.{Lent}
use Rattle.pages.proofs.Numbers.{passes}
use Rattle.pieces.specs.Words.{entry_words}
use Rattle.table.specs.Sound.{largest_capacity}

-- of the local words ws the first n, as many as the area b has; r is what the test of b's length answered
module _ (b ws : List ℕ) (room : largest_capacity * entry_words ≡ length ws) {r : Bool} (is : r ≡ area_lengthb (length b)) (passed : r ≡ true) where
  form : area_lengthb (length b) ≡ true
  form = passes is passed

  pub head_within : table_at ≤ length b
  head_within = (area_fits (length b) form).0

  module _ {n : ℕ} (many : n ≡ table_words (length b)) where
    pub lent_within : n ≤ length ws
    lent_within = omega (arith, many, room, area_most (length b) form)

    pub lent_long : n ≡ length (take n ws)
    lent_long = sym (length-take-le n ws lent_within)

    pub lent : Lent b (take n ws)
    lent = record { area = form; fits = omega (arith, many, lent_long, (area_fits (length b) form).1) }
