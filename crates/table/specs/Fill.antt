-- The table that the live pieces determine.
--
--   lives es             the live entries of es, in their order
--   free c a b           the free entry of class c from a to b, if there is a byte between them
--   gap P k a b m        the free entries between a live piece of class k that ends at a and one of class m that starts at b:
--
--        a          lo                hi         b
--        |  of k    |   free large    |   of m   |
--
--                        behind a small piece its own class reaches to the next border, and before a small piece from the last one;
--                        what lies between is free large. Beside a large piece nothing is of a small class. At most three entries
--   lo P k a b           how far the free bytes behind the former piece are of its class
--   hi P l b m           from where the free bytes before the next piece are of its class, if those of the former reach to l
--   tail P k a           the free entry behind the last piece, of class k, that ends at a: to the page's end
--   fill P ps            all entries of the table whose live pieces are ps; fill_from P k a ps those behind a piece of class k that ends at a.
--                        Before the first piece all is as behind a large one that ends at 0
--   end_of P ps           the end of the file: where the page of the last piece ends, 0 if there is none
--
--   Good P ps            ps can be the live pieces of a table: each by itself is as its class demands (Whole), and each next one lies
--                        behind the former, and in another page unless both are small and of one class (Apart)
--
-- Assumes nothing. Laws are in proofs/GapLaws.antt; that these are the sound tables is said in Theorems.antt.
use Rattle.std.specs.Prelude.{◌≡◌, cond, List, [], ◌∷◌, ◌++◌, ℕ, ◌+◌, ◌-◌, ◌≤◌, ◌<◌, min, max, ltb}
use Rattle.pages.specs.Pages.{down, up, Border}
use Rattle.pieces.specs.declared.Class.{Class}
use Rattle.pieces.specs.declared.Class.TheVariants.{SmallMetadata, SmallRaw, Large}
use Rattle.pieces.specs.declared.Status.{Status}
use Rattle.pieces.specs.declared.Status.TheVariants.{Live, Free}
use Rattle.pieces.specs.declared.Piece.{Piece}
use Rattle.pieces.specs.Pieces.{piece, behind, class_of, Small}

-- ---- the live entries

abbrev pub cons_live : Piece → Status → List Piece → List Piece
cons_live x (Live c) ps = x ∷ ps
cons_live x (Free c) ps = ps

unfoldable pub lives : List Piece → List Piece
lives [] = []
lives (x ∷ es) = cons_live x x.status (lives es)

-- ---- the free entries between them

unfoldable pub free : Class → ℕ → ℕ → List Piece
free c a b = cond (ltb a b) (piece a (b - a) (Free c) ∷ []) []

unfoldable pub lo : ℕ → Class → ℕ → ℕ → ℕ
lo P SmallMetadata a b = min b (up P a)
lo P SmallRaw a b = min b (up P a)
lo P Large a b = a

unfoldable pub hi : ℕ → ℕ → ℕ → Class → ℕ
hi P l b SmallMetadata = max l (down P b)
hi P l b SmallRaw = max l (down P b)
hi P l b Large = b

unfoldable pub gap : ℕ → Class → ℕ → ℕ → Class → List Piece
gap P k a b m =
    let l = lo P k a b in
    let h = hi P l b m in
    free k a l ++ (free Large l h ++ free m h b)

abbrev pub tail : ℕ → Class → ℕ → List Piece
tail P k a = free k a (up P a)

-- ---- the whole table

unfoldable pub fill_from : ℕ → Class → ℕ → List Piece → List Piece
fill_from P k a [] = tail P k a
fill_from P k a (x ∷ ps) = gap P k a x.address (class_of x.status) ++ (x ∷ fill_from P (class_of x.status) (behind x) ps)

unfoldable pub fill : ℕ → List Piece → List Piece
unfolding fill_from
fill P ps = fill_from P Large 0 ps

-- where the last of ps ends; a, if there is none
unfoldable pub last_end : ℕ → List Piece → ℕ
last_end a [] = a
last_end a (x ∷ ps) = last_end (behind x) ps

unfoldable pub end_of : ℕ → List Piece → ℕ
unfolding last_end
end_of P ps = up P (last_end 0 ps)

-- ---- the lists of live pieces that can be

-- z bytes at a are less than a page, and within one
pub record Within (P a z : ℕ) : Type 0 where
  pub under : z < P
  pub in_page : a + z ≤ down P a + P

pub record Whole (P : ℕ) (m : Class) (a z : ℕ) : Type 0 where
  pub some : 0 < z
  pub small : Small m → Within P a z
  pub aligned : m ≡ Large → Border P a
  pub whole : m ≡ Large → P ≤ z

pub data Apart (P : ℕ) (k : Class) (a b : ℕ) (m : Class) : Type 0 where
  border_between : up P a ≤ b → Apart P k a b m
  one_family : a ≤ b → Small k → k ≡ m → Apart P k a b m

pub data GoodFrom (P : ℕ) : Class → ℕ → List Piece → Type 0 where
  none : {k : Class} {a : ℕ} → GoodFrom P k a []
  next : {k m : Class} {a b z : ℕ} {ps : List Piece} → Apart P k a b m → Whole P m b z → GoodFrom P m (b + z) ps
      → GoodFrom P k a (piece b z (Live m) ∷ ps)

abbrev pub Good : ℕ → List Piece → Type 0
Good P ps = GoodFrom P Large 0 ps
