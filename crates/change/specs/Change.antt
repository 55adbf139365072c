-- The one way to change a table, planned before a word is written.
--
--   former_of w i          the last live piece before entry i of the words w
--   next_of w j k           the first live entry among the k from entry j on; entry j + k, if there is none
--   closing_gap P k a es   the gap behind a piece of class k that ends at a, before the entries es, the first of which is live
--   end_behind P E a to n  where the file ends if the last piece before entry `to` of n ends at a: E, if live pieces follow
--
--   plan_of P E n from to new a    the plan to put these new entries, the last piece of which ends at a, between `from` and `to`
--   plan_without P E n i j w      the plan to leave out the live pieces among the entries from i up to j of the words w: the entries between
--                          the former and the next live piece give way to the gap between the two
--   plan_with P E n i j w x       so with the live piece x in their place, between two gaps
--   PlanFits P E n i j w   what a plan asks: the entries of w are those of a sound table, and i up to j a part of them
--   Planned P n w ps r     what a plan r says: with the entries from r.from up to r.to replaced by r.new, the entries are those that the
--                          live pieces ps determine, and so are the end and the count
--
-- Assumes nothing. That these plans are `Planned` is said by `planned_without` and `planned_with` of proofs/PlanLaws.antt.
use Rattle.std.specs.Prelude.{◌≡◌, cond, List, [], ◌∷◌, ◌++◌, ℕ, zero, suc, ◌+◌, ◌-◌, ◌*◌, ◌≤◌, ◌<◌, ◌^◌, ltb, length}
use Rattle.pages.specs.Pages.{PageSize, Border, up}
use Rattle.pieces.specs.declared.Class.{Class}
use Rattle.pieces.specs.declared.Class.TheVariants.{Large}
use Rattle.pieces.specs.declared.Status.{Status}
use Rattle.pieces.specs.declared.Status.TheVariants.{Live, Free}
use Rattle.pieces.specs.declared.Piece.{Piece}
use Rattle.pieces.specs.Pieces.{behind, class_of, freeb}
use Rattle.pieces.specs.Words.{entry_words, entry_at, entries}
use Rattle.table.specs.Fill.{fill, end_of}
use Rattle.table.specs.Sound.{SoundEntries}
use Rattle.edit.specs.New.{gap_of, tail_of, new_entries}
use Rattle.edit.specs.declared.gap.Gap.{Gap}
use Rattle.edit.specs.declared.new.New.{New}
use Rattle.edit.specs.declared.new.New.TheVariants.{Without, With}
use Rattle.change.specs.declared.around.Former.{Former}
use Rattle.change.specs.declared.plan.Plan.{Plan}

-- ---- the live pieces on the two sides

abbrev pub former_step : ℕ → Piece → Status → Former → Former
former_step i x (Live c) f = record { from = suc i; class = c; end = behind x }
former_step i x (Free c) f = f

unfoldable pub former_of : List ℕ → ℕ → Former
former_of w zero = record { from = 0; class = Large; end = 0 }
former_of w (suc i) = former_step i (entry_at w i) (entry_at w i).status (former_of w i)

unfoldable pub next_of : List ℕ → ℕ → ℕ → ℕ
next_of w j zero = j
next_of w j (suc k) = cond (freeb (entry_at w j).status) (next_of w (suc j) k) j

unfoldable pub closing_gap : ℕ → Class → ℕ → List Piece → Gap
closing_gap P k a [] = tail_of P k a
closing_gap P k a (y ∷ es) = gap_of P k a y.address (class_of y.status)

unfoldable pub end_behind : ℕ → ℕ → ℕ → ℕ → ℕ → ℕ
end_behind P E a to n = cond (ltb to n) E (up P a)

-- ---- a plan

abbrev pub plan_of : ℕ → ℕ → ℕ → ℕ → ℕ → New → ℕ → Plan
plan_of P E n from to new a =
    record { from = from; to = to; new = new; end = end_behind P E a to n; count = from + length (new_entries new) + (n - to) }

unfoldable pub plan_without : ℕ → ℕ → ℕ → ℕ → ℕ → List ℕ → Plan
plan_without P E n i j w =
    let f = former_of w i in
    let to = next_of w j (n - j) in
    plan_of P E n f.from to (Without (closing_gap P f.class f.end (entries w to (n - to)))) f.end

unfoldable pub plan_with : ℕ → ℕ → ℕ → ℕ → ℕ → List ℕ → Piece → Plan
plan_with P E n i j w x =
    let f = former_of w i in
    let to = next_of w j (n - j) in
    let front = gap_of P f.class f.end x.address (class_of x.status) in
    let rear = closing_gap P (class_of x.status) (behind x) (entries w to (n - to)) in
    plan_of P E n f.from to (With front x rear) (behind x)

pub record PlanFits (P E n i j : ℕ) (w : List ℕ) : Type 0 where
  pub page : PageSize P
  pub border : Border P E
  pub file : E + P ≤ 2 ^ 64
  pub few : n < 2 ^ 32
  pub room : n * entry_words ≤ length w
  pub rules : SoundEntries P E (entries w 0 n)
  pub low : i ≤ j
  pub high : j ≤ n

pub record Planned (P n : ℕ) (w : List ℕ) (ps : List Piece) (r : Plan) : Type 0 where
  pub low : r.from ≤ r.to
  pub high : r.to ≤ n
  pub count : r.count ≡ length (fill P ps)
  pub ends : r.end ≡ end_of P ps
  pub filled : entries w 0 r.from ++ (new_entries r.new ++ entries w r.to (n - r.to)) ≡ fill P ps
