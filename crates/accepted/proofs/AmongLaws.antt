-- The live pieces of a table, by their names.
--
--   Among n ps                one of the pieces ps has this name
--   mem_lives, lives_entry    a live entry is a live piece; a live piece is an entry, and live
--   mem_remove, among_remove  another piece's removal leaves it
--
-- Assumes nothing.
use mathlib.Core.Bool.{Bool, true, false, cond}
use mathlib.Core.List.{List, [], ◌∷◌, Memᴰ}
use mathlib.Core.Path.{◌≡◌, refl, sym, ap, ◌∙◌}
use Rattle.pieces.specs.declared.Class.{Class}
use Rattle.pieces.specs.declared.Piece.{Piece}
use Rattle.pieces.specs.declared.Status.TheVariants.{Live, Free}
use Rattle.pieces.specs.declared.Status.{Status}
use Rattle.rules.proofs.RemoveLaws.{named_address, named_size}
use Rattle.rules.specs.Editing.{Name, names, remove}
use Rattle.table.proofs.LivesLaws.{lives_live, lives_free}
use Rattle.table.specs.Fill.{cons_live, lives}

-- ---- a live piece by its name

pub record Among (n : Name) (ps : List Piece) : Type 0 where
  pub it : Piece
  pub among : Memᴰ it ps
  pub named : names n it ≡ true

-- a live entry is among the live pieces, and these are entries and live
pub mem_lives : {x : Piece} {es : List Piece} {c : Class} → x.status ≡ Live c → Memᴰ x es → Memᴰ x (lives es)
mem_lives {x = x} q (Memᴰ.head {x = y} {xs = es} e) =
    rw (lives_live y es (sym (ap (λ (v : Piece). v.status) e) ∙ q)) (Memᴰ.head e)
mem_lives {x = x} q (Memᴰ.tail {x = y} {xs = es} h) = go y.status refl (mem_lives q h)
  where
    go : (t : Status) → y.status ≡ t → Memᴰ x (lives es) → Memᴰ x (lives (y ∷ es))
    go (Live k) f i = rw (lives_live y es f) (Memᴰ.tail i)
    go (Free k) f i = rw (lives_free y es f) i

pub record LiveEntry (x : Piece) (es : List Piece) : Type 0 where
  pub class : Class
  pub live : x.status ≡ Live class
  pub among : Memᴰ x es

live_later : {x : Piece} (y : Piece) {es : List Piece} → LiveEntry x es → LiveEntry x (y ∷ es)
live_later y h = record { class = h.class; live = h.live; among = Memᴰ.tail h.among }

pub lives_entry : (es : List Piece) (x : Piece) → Memᴰ x (lives es) → LiveEntry x es
unfolding lives
lives_entry [] x h = elim h [ ]
lives_entry (y ∷ es) x h = go y.status refl h (lives_entry es x)
  where
    first : (k : Class) → y.status ≡ Live k → Memᴰ x (y ∷ lives es) → (Memᴰ x (lives es) → LiveEntry x es) → LiveEntry x (y ∷ es)
    first k f (Memᴰ.head e) i = record { class = k; live = ap (λ (v : Piece). v.status) e ∙ f; among = Memᴰ.head e }
    first k f (Memᴰ.tail m) i = live_later y (i m)

    go : (t : Status) → y.status ≡ t → Memᴰ x (cons_live y t (lives es)) → (Memᴰ x (lives es) → LiveEntry x es) → LiveEntry x (y ∷ es)
    go (Live k) f m i = first k f m i
    go (Free k) f m i = live_later y (i m)

-- ---- another piece's removal leaves a piece

one_name : (n m : Name) (x : Piece) → names n x ≡ true → names m x ≡ true → n ≡ m
one_name n m x e f =
    let a : n.address ≡ m.address = sym (named_address n x e) ∙ named_address m x f in
    let b : n.size ≡ m.size = sym (named_size n x e) ∙ named_size m x f in
    λ i. record { address = a i; size = b i }

pub mem_remove : (n : Name) {x : Piece} {ps : List Piece} → names n x ≡ false → Memᴰ x ps → Memᴰ x (remove n ps)
unfolding remove
mem_remove n {x} f (Memᴰ.head {x = y} e) = let g : names n y ≡ false = rw e at f in rw g (Memᴰ.head e)
mem_remove n {x} f (Memᴰ.tail {x = y} {xs = ps} h) = go (names n y) (mem_remove n f h)
  where
    go : (t : Bool) → Memᴰ x (remove n ps) → Memᴰ x (cond t (remove n ps) (y ∷ remove n ps))
    go true i = i
    go false i = Memᴰ.tail i

pub among_remove : (n m : Name) {ps : List Piece} → (n ≡ m → ⊥) → Among n ps → Among n (remove m ps)
among_remove n m {ps} other h = go (names m h.it) refl
  where
    go : (t : Bool) → names m h.it ≡ t → Among n (remove m ps)
    go true f = absurd (other (one_name n m h.it h.named f))
    go false f = record { it = h.it; among = mem_remove m f h.among; named = h.named }
