-- The walk to the piece that a call names, and the live pieces without it or with it in another size.
--
--   Reached         where the named piece stands, and that the walk does there what it is given to do
--   reached         the walk through a table reaches the live piece of the name
--   among_behind    the entries behind it are entries of the table
--   removed         the live pieces without the named one are those around it
--   resized         the live pieces with the named one q bytes long have it between the same others
use Prim.Native.Nat.{ℕ, ◌+◌, ◌<◌}
use mathlib.Core.Bool.{Bool, true, false, not, ◌&&◌}
use mathlib.Core.List.{List, [], ◌∷◌, ◌++◌, reverse, reverse_aux, Memᴰ}
use mathlib.Core.Path.{◌≡◌, refl, sym, ap, subst, ◌∙◌}
use native.Mathlib.Omega.{arith}
use borrow.Author.Tests.{ne_eqb}
use Rattle.literal.proofs.ChangedChains.{nearest, Upto, start, add, lives_around}
use Rattle.literal.specs.Steps.{File, is_named, at_named}
use Rattle.pieces.specs.Pieces.{piece, freeb}
use Rattle.pieces.specs.declared.Class.{Class}
use Rattle.pieces.specs.declared.Piece.{Piece}
use Rattle.pieces.specs.declared.Status.TheVariants.{Live}
use Rattle.pieces.specs.declared.Status.{Status}
use Rattle.rules.proofs.RemoveLaws.{named_address}
use Rattle.rules.proofs.SpliceLaws.{remove_at, resize_at}
use Rattle.rules.specs.Editing.{Name, names, remove, resize}
use Rattle.table.proofs.Canon.{canonical}
use Rattle.table.proofs.Chain.{Entry, ChainFrom, stop, step, Chain}
use Rattle.table.proofs.ChainLaws.{mem_from}
use Rattle.table.specs.Fill.{lives}

-- a live piece of class k and z bytes at a, one of es, where the entries ls stand before es
pub record Reached (P E : ℕ) (n : Name) (a z : ℕ) (k : Class) (ls es : List Piece) : Type 0 where
  pub before : List Piece
  pub behind : List Piece
  pub upto : Upto P a before
  pub entry : Entry P (nearest before) a z (Live k) behind
  pub chain : ChainFrom P E (Live k) (a + z) behind
  pub whole : reverse_aux before (piece a z (Live k) ∷ behind) ≡ reverse_aux ls es
  pub walked : (f : List Piece → Piece → List Piece → File) → at_named E f n ls es ≡ f before (piece a z (Live k)) behind

module _ (P : ℕ) (n : Name) (a z : ℕ) (k : Class) (named : names n (piece a z (Live k)) ≡ true) where
  -- it is the next entry
  reached_here : {E b m : ℕ} {t : Status} {ls ys : List Piece} → Upto P b ls → Entry P (nearest ls) b m t ys → ChainFrom P E t (b + m) ys
      → piece a z (Live k) ≡ piece b m t → Reached P E n a z k ls (piece b m t ∷ ys)
  unfolding at_named
  reached_here {ls = ls} {ys = ys} u e r q =
      let i = ap (λ (p : Piece). p.address) q in
      let j = ap (λ (p : Piece). p.size) q in
      let l = ap (λ (p : Piece). p.status) q in
      record {
        before = ls;
        behind = ys;
        upto = rw (← i) at u;
        entry = rw (← i, ← j, ← l) at e;
        chain = rw (← i, ← j, ← l) at r;
        whole = ap (λ (p : Piece). reverse_aux ls (p ∷ ys)) q;
        walked = λ f. rw (← i, ← j, ← l, named);
      }

  -- an entry at another address has another name
  not_named : (x : Piece) → (x.address ≡ a → ⊥) → is_named n x ≡ false
  not_named x h = rw (ne_eqb x.address n.address (λ e. h (e ∙ sym (named_address n (piece a z (Live k)) named)))) (go (not (freeb x.status)))
    where
      go : (t : Bool) → (t && false) ≡ false
      go true = refl
      go false = refl

  -- s is the status of the nearest entry before
  reached_from : {E b : ℕ} {s : Status} {ls es : List Piece} → Upto P b ls → ChainFrom P E s b es → s ≡ nearest ls
      → Memᴰ (piece a z (Live k)) es → Reached P E n a z k ls es
  unfolding at_named
  reached_from u (step e r) near (Memᴰ.head q) = reached_here u (rw near at e) r q
  reached_from u (step {t = t} {a = b} {n = m} e r) near (Memᴰ.tail i) =
      let f = rw near at e in
      let h = reached_from (add u f) r refl i in
      record {
        before = h.before;
        behind = h.behind;
        upto = h.upto;
        entry = h.entry;
        chain = h.chain;
        whole = h.whole;
        walked = λ f. rw (not_named (piece b m t) (λ q. omega (arith, e.some, mem_from r i))) (h.walked f);
      }
  reached_from u (stop e b) near i = elim i [ ]

pub reached : {P E : ℕ} {k : Class} {x : Piece} {es : List Piece} (n : Name) → Chain P E es → Memᴰ x es → x.status ≡ Live k
    → names n x ≡ true → Reached P E n x.address x.size k [] es
reached {P} {k = k} {x = x} {es = es} n c m q h =
    reached_from P n x.address x.size k h start c refl (subst (λ (t : Status). Memᴰ (piece x.address x.size t) es) q m)

pub among_behind : (ls : List Piece) (x : Piece) {y : Piece} {ys : List Piece} → Memᴰ y ys → Memᴰ y (reverse_aux ls (x ∷ ys))
among_behind [] x i = Memᴰ.tail i
among_behind (l ∷ ls) x i = among_behind ls l (Memᴰ.tail i)

module _ {P E : ℕ} {n : Name} {a z : ℕ} {k : Class} {es : List Piece} (pos : 0 < P) (c : Chain P E es) (r : Reached P E n a z k [] es)
    (named : names n (piece a z (Live k)) ≡ true) where
  -- the live pieces, by where it stands
  lives_whole : lives es ≡ lives (reverse r.before) ++ (piece a z (Live k) ∷ lives r.behind)
  unfolding lives
  lives_whole = ap lives (sym r.whole) ∙ lives_around r.before (piece a z (Live k) ∷ r.behind)

  pub removed : remove n (lives es) ≡ lives (reverse_aux r.before r.behind)
  removed =
      let g = rw lives_whole at (canonical pos c).2 in
      ap (remove n) lives_whole
      ∙ (remove_at P pos n (lives (reverse r.before)) (piece a z (Live k)) (lives r.behind) g named ∙ sym (lives_around r.before r.behind))

  pub resized : (q : ℕ) → resize n q (lives es) ≡ lives (reverse_aux r.before (piece a q (Live k) ∷ r.behind))
  unfolding lives
  resized q =
      let g = rw lives_whole at (canonical pos c).2 in
      ap (resize n q) lives_whole
      ∙ (resize_at P pos n q (lives (reverse r.before)) (piece a z (Live k)) (lives r.behind) g named
      ∙ sym (lives_around r.before (piece a q (Live k) ∷ r.behind)))
