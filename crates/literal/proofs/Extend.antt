-- Extending is giving a live piece more bytes: the statement `Extending` of specs/Statements.antt, over chains.
--
-- In this order: the longer piece may stand where it stood; it takes bytes of the free entry behind it (Takes); it grows the file; what the
-- stated room says of the entries behind it; `extended_chain`.
use Prim.Native.Nat.{ℕ, ◌+◌, ◌≤◌, ◌<◌}
use mathlib.Core.Bool.{true}
use mathlib.Core.List.{List, [], ◌∷◌, ◌++◌, append-nil, reverse_aux, Memᴰ, cons≢nil}
use mathlib.Core.Path.{◌≡◌, refl, sym, ap, ◌∙◌}
use native.Mathlib.Omega.{arith}
use Rattle.literal.proofs.AllocateLaws.{grant_large, remainder, rest_behind}
use Rattle.literal.proofs.ChangedChains.{nearest, Upto, upto_chain, lives_skip, lives_free_between, lives_free_last, file_of_chain}
use Rattle.literal.proofs.MergeLaws.{same_page}
use Rattle.literal.proofs.NamedPiece.{Reached, reached, among_behind, resized}
use Rattle.literal.specs.Resizing.{extended_into, extended_at_end, after_extending_at, after_extending}
use Rattle.literal.specs.Statements.{FileOf, ExtendingIn}
use Rattle.pages.proofs.PageLaws.{up_border, up_ge, up_lt, border_sum}
use Rattle.pages.specs.Pages.{up, Border}
use Rattle.pieces.proofs.PieceLaws.{large_small, small_large}
use Rattle.pieces.specs.Pieces.{piece, class_of, Small, IsFree, is_free}
use Rattle.pieces.specs.declared.Class.TheVariants.{Large}
use Rattle.pieces.specs.declared.Class.{Class}
use Rattle.pieces.specs.declared.Piece.{Piece}
use Rattle.pieces.specs.declared.Status.TheVariants.{Live, Free}
use Rattle.pieces.specs.declared.Status.{Status}
use Rattle.room.proofs.ConditionLaws.{the_next}
use Rattle.room.specs.Conditions.{RoomBehind, small_room, large_room, room_at_end}
use Rattle.rules.proofs.RemoveLaws.{named_size}
use Rattle.rules.specs.Editing.{Name, names, resize}
use Rattle.table.proofs.Chain.{Entry, ChainFrom, stop, step, Chain}
use Rattle.table.proofs.ChainLaws.{entry_live, chain_border_end, chain_end}
use Rattle.table.specs.Fill.{lives, free, Whole}

module _ (P : ℕ) (pos : 0 < P) where
  -- ---- the free entry behind it

  -- what a piece of class k and z bytes at a takes: m bytes of a free entry of n bytes
  record Takes (k : Class) (a z m n : ℕ) : Type 0 where
    bytes : m ≤ n
    under : Small k → z + m < P
    in_page : Small k → ¬ Border P (a + z)

  longer_whole : {a z m n : ℕ} {k : Class} {s : Status} {es ys : List Piece} → Entry P s a z (Live k) es → Entry P (Live k) (a + z) n (Free k) ys
      → Takes k a z m n → Whole P k a (z + m)
  longer_whole {a} {z} e v h =
      record {
        some = omega (arith, e.some);
        small = λ s. record {
          under = h.under s;
          in_page = omega (arith, h.bytes, (v.small s).in_page, same_page P pos a z (e.small s).in_page (h.in_page s));
        };
        aligned = λ q. e.aligned (ap Live q);
        whole = λ q. omega (arith, e.whole (ap Live q));
      }

  into_chain : {E a z m n : ℕ} {k : Class} {t : Status} {ls es ys : List Piece} → Upto P a ls → Entry P (nearest ls) a z (Live k) es
      → Entry P (Live k) (a + z) n t ys → ChainFrom P E t (a + z + n) ys → t ≡ Free k → Takes k a z m n
      → Chain P E (reverse_aux ls (piece a (z + m) (Live k) ∷ (free (class_of t) (a + (z + m)) (a + z + n) ++ ys)))
  into_chain {a = a} {z = z} {m = m} {ys = ys} u e v r q h =
      let i : a + z + m ≡ a + (z + m) = omega arith in
      let v' = rw q at v in
      let rest = rest_behind P pos ys h.bytes v' (rw q at r) in
      rw q (upto_chain u (step (entry_live (longer_whole e v' h) e.family) (rw i at rest)) (λ x y. cons≢nil x))

  into_done : {E a z m : ℕ} {k : Class} {ls es ys : List Piece} {y : Piece} → Upto P a ls → Entry P (nearest ls) a z (Live k) es
      → ChainFrom P E (Live k) (a + z) (y ∷ ys) → y.status ≡ Free k → Takes k a z m y.size
      → FileOf P (after_extending_at P E m ls (piece a z (Live k)) (y ∷ ys)) (lives (reverse_aux ls (piece a (z + m) (Live k) ∷ y ∷ ys)))
  unfolding after_extending_at extended_into
  into_done {E} {a} {z} {m} {k} {ls} {ys = ys} u e (step {t = t} {n = n} v r) q h =
      let xs : List Piece = piece a (z + m) (Live k) ∷ ls in
      file_of_chain _ pos (into_chain u e v r q h)
      (lives_free_between xs (class_of t) (a + (z + m)) (a + z + n) ys ∙ sym (lives_skip xs (piece (a + z) n t) ys q))

  -- ---- it grows the file

  end_done : {E a z : ℕ} {k : Class} {ls es : List Piece} (m : ℕ) → Upto P a ls → Entry P (nearest ls) a z (Live k) es → k ≡ Large
      → Border P E → a + z ≡ E
      → FileOf P (after_extending_at P E m ls (piece a z (Live k)) []) (lives (reverse_aux ls (piece a (z + m) (Live k) ∷ [])))
  unfolding after_extending_at extended_at_end
  end_done {E} {a} {z} {k} {ls} m u e l b q =
      file_of_chain _ pos (upto_chain u (step (entry_live whole e.family) last) (λ x y. cons≢nil x))
      (lives_free_last (piece a (z + m) (Live k) ∷ ls) Large (E + m) (E + up P m))
    where
      rest : List Piece
      rest = free Large (E + m) (E + up P m)

      whole : Whole P k a (z + m)
      whole =
          record {
            some = omega (arith, e.some);
            small = λ s. absurd (small_large s l);
            aligned = λ i. e.aligned (ap Live l);
            whole = λ i. omega (arith, e.whole (ap Live l));
          }

      last : ChainFrom P (E + up P m) (Live k) (a + (z + m)) rest
      last =
          let i : a + (z + m) ≡ E + m = omega arith in
          rw (l, ← append-nil rest, ← i)
          (remainder P pos (E + up P m) [] (grant_large P pos (whole.aligned l) (whole.whole l)) (omega (arith, up_ge P pos m))
          (λ x. omega (arith, up_lt P pos m)) (stop refl (border_sum b (up_border P pos m))))

  -- ---- the stated room

  module _ {E a z : ℕ} {k : Class} {es : List Piece} {n : Name} (c : Chain P E es) (r : Reached P E n a z k [] es) where
    among : (y : Piece) → Memᴰ y r.behind → Memᴰ y es
    among y i = rw r.whole at (among_behind r.before (piece a z (Live k)) i)

    abbrev Done : ℕ → Type 0
    Done m =
        FileOf P (after_extending_at P E m r.before (piece a z (Live k)) r.behind)
        (lives (reverse_aux r.before (piece a (z + m) (Live k) ∷ r.behind)))

    entry_done : {y : Piece} (m : ℕ) → Memᴰ y es → y.address ≡ a + z → y.status ≡ Free k → Takes k a z m y.size → Done m
    entry_done m i q f h =
        let t = (the_next pos c r.chain among i q).1 in
        rw t (into_done r.upto r.entry (rw t at r.chain) f h)

    -- a free entry behind a small piece in its page is of its class
    free_there : {y : Piece} → Memᴰ y es → y.address ≡ a + z → IsFree y.status → ¬ Border P (a + z) → y.status ≡ Free k
    free_there i q f nb = go (rw (the_next pos c r.chain among i q).1 at r.chain) f
      where
        go : {y : Piece} {ys : List Piece} → ChainFrom P E (Live k) (a + z) (y ∷ ys) → IsFree y.status → y.status ≡ Free k
        go (step v r) is_free = ap Free (sym (v.family nb))

    room_done : {c : Class} (m : ℕ) → RoomBehind P E es a z m c → c ≡ k → Done m
    room_done m (small_room s i q f nb l u) e =
        entry_done m i q (free_there i q f nb) (record { bytes = l; under = λ t. u; in_page = λ t. nb })
    room_done m (large_room i q f l) e =
        entry_done m i q (f ∙ ap Free e) (record { bytes = l; under = λ t. absurd (large_small t e); in_page = λ t. absurd (large_small t e) })
    room_done m (room_at_end q) e = rw (chain_end r.chain q) (end_done m r.upto r.entry (sym e) (chain_border_end r.chain) q)

  pub extended_chain : {E m : ℕ} {k : Class} {x : Piece} {es : List Piece} (n : Name) → Chain P E es → Memᴰ x es → x.status ≡ Live k
      → names n x ≡ true → RoomBehind P E es x.address x.size m k → ExtendingIn P E n m es
  unfolding after_extending
  extended_chain {E} {m} {x = x} {es = es} n c i q h b =
      let r = reached n c i q h in
      let g = ap (λ (z : ℕ). resize n (z + m) (lives es)) (sym (named_size n x h)) ∙ resized pos c r h (x.size + m) in
      rw (r.walked (after_extending_at P E m), g) (room_done c r m b refl)
