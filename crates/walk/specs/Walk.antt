-- One step of the walk, over the walk's own numbers: address, what is left of the page, and a state that says what may follow.
--
--   at_border, behind_free_large  the states at a border; inside a page the state is the former kind
--   border_stateb s             the state s stands at a border
--   state_of b k                 the state behind an entry of kind k, at a border or inside a page
--   small_followsb s k          the kind k is small and may stand behind the state s: at a border any; inside a page of one class with the
--                               former, and not both free
--   live_largeb P s z           a live large entry of z bytes behind the state s: at a border, with a page at least
--   free_large_followsb s       a free large entry may stand behind the state s: at a border not behind another, or inside a page behind a
--                               live large one
--   free_largeb P s z last      a free large entry of z bytes behind the state s: as the last entry with less than a page
--   large_rulesb P s k z last   an entry of kind k is large, and holds as its kind asks
--   within_left P l z           z bytes are less than a page, and within the l bytes that are left of one
--   left_behind P l z           what is left of the page behind z bytes
--   walk_behind P a l k         the walk behind an entry of kind k that ends at a, with l bytes left of the page
--   walk_at P a s               the walk behind an entry of status s that ends at a
--   Walked P v                  what a step asks of the walk v: room for a sum, at most a page left, and a state
--   step_if b P v z k           the walk v behind an entry of kind k and z bytes, if the test b holds
--   small_entryb, large_entryb  what is to be tested of a small entry whose kind may follow, and of any other entry
--   stepb P E v u last          the next entry, which the words u say, keeps the rules
--   stepped P E v u last        the walk v behind the next entry, if that keeps the rules
--   WalkFits P E n w            what keeps every sum of a walk over n entries of w within 64 bits
--
-- A small entry is not tested against the end E: the walk only goes up, so one that ends at E never was behind it. Assumes nothing. That these
-- say the same as `table`'s tests is proved in proofs/StateLaws.antt.
use Rattle.std.specs.Prelude.{Option, Some, None, Bool, cond, not, ◌&&◌, ◌||◌, ℕ, ◌+◌, ◌-◌, ◌*◌, ◌%◌, ◌^◌, ◌≤◌, ◌<◌, List, leb, ltb, eqb, length}
use Rattle.pages.specs.Pages.{PageSize, left}
use Rattle.pieces.specs.declared.Class.TheVariants.{Large}
use Rattle.pieces.specs.declared.Status.{Status}
use Rattle.pieces.specs.declared.Status.TheVariants.{Live, Free}
use Rattle.pieces.specs.declared.Words.{Words}
use Rattle.pieces.specs.Pieces.{class_of, smallb, freeb, same_class, kind_of, kindb, status_of}
use Rattle.pieces.specs.Words.{entry_words}
use Rattle.table.specs.Sound.{largest_limit, largest_capacity}
use Rattle.walk.specs.declared.Walk.{Walk}

-- ---- states

abbrev pub at_border : ℕ
at_border = 0

abbrev pub behind_free_large : ℕ
behind_free_large = 7

abbrev pub border_stateb : ℕ → Bool
border_stateb s = eqb s at_border || eqb s behind_free_large

unfoldable pub state_of : Bool → ℕ → ℕ
state_of b k = cond b (cond (eqb k (kind_of (Free Large))) behind_free_large at_border) k

-- ---- what may follow

unfoldable pub small_followsb : ℕ → ℕ → Bool
small_followsb s k =
    smallb (class_of (status_of k))
    && (border_stateb s || (same_class (class_of (status_of s)) (class_of (status_of k)) && not (freeb (status_of s) && freeb (status_of k))))

unfoldable pub live_largeb : ℕ → ℕ → ℕ → Bool
live_largeb P s z = leb P z && border_stateb s

abbrev pub free_large_followsb : ℕ → Bool
free_large_followsb s = eqb s at_border || eqb s (kind_of (Live Large))

unfoldable pub free_largeb : ℕ → ℕ → ℕ → Bool → Bool
free_largeb P s z last = free_large_followsb s && (not last || ltb z P)

unfoldable pub large_rulesb : ℕ → ℕ → ℕ → ℕ → Bool → Bool
large_rulesb P s k z last = cond (eqb k (kind_of (Live Large))) (live_largeb P s z) (eqb k (kind_of (Free Large)) && free_largeb P s z last)

abbrev pub within_left : ℕ → ℕ → ℕ → Bool
within_left P l z = ltb z P && leb z l

-- ---- the walk

unfoldable pub left_behind : ℕ → ℕ → ℕ → ℕ
left_behind P l z = cond (ltb z l) (l - z) (cond (eqb z l) P (P - (z - l) % P))

abbrev pub walk_behind : ℕ → ℕ → ℕ → ℕ → Walk
walk_behind P a l k = record { at = a; left = l; state = state_of (eqb l P) k }

abbrev pub walk_at : ℕ → ℕ → Status → Walk
walk_at P a s = walk_behind P a (left P a) (kind_of s)

pub record Walked (P : ℕ) (v : Walk) : Type 0 where
  pub page : 0 < P
  pub room : v.at + P ≤ 2 ^ 64
  pub within : v.left ≤ P
  pub state : v.state ≤ behind_free_large

abbrev pub step_if : Bool → ℕ → Walk → ℕ → ℕ → Option Walk
step_if b P v z k = cond b (Some (walk_behind P (v.at + z) (left_behind P v.left z) k)) None

abbrev pub small_entryb : ℕ → Walk → ℕ → Bool
small_entryb P v z = leb 1 z && within_left P v.left z

abbrev pub large_entryb : ℕ → ℕ → Walk → ℕ → ℕ → Bool → Bool
large_entryb P E v z k last = leb 1 z && (leb (v.at + z) E && large_rulesb P v.state k z last)

unfoldable pub stepb : ℕ → ℕ → Walk → Words → Bool → Bool
stepb P E v u last =
    eqb u.address v.at
    && (kindb u.kind && cond (small_followsb v.state u.kind) (small_entryb P v u.size) (large_entryb P E v u.size u.kind last))

abbrev pub stepped : ℕ → ℕ → Walk → Words → Bool → Option Walk
stepped P E v u last = step_if (stepb P E v u last) P v u.size u.kind

pub record WalkFits (P E n : ℕ) (w : List ℕ) : Type 0 where
  pub page : PageSize P
  pub end : E ≤ largest_limit
  pub count : n ≤ largest_capacity
  pub fits : n * entry_words ≤ length w
