-- Chains that change in one place.
--
-- In this order: the same entry in another place; what may follow what; the entries before a place, the nearest
-- first (Upto), and how they join the entries from there on; live pieces; `file_of_chain`.
use Prim.Native.Nat.{ℕ, ◌+◌, ◌<◌}
use mathlib.Core.List.{List, [], ◌∷◌, ◌++◌, append-nil, reverse, reverse_aux, reverse_aux-eq, cons≢nil}
use mathlib.Core.Path.{◌≡◌, sym, ap, ◌∙◌}
use Rattle.pages.specs.Pages.{Border}
use Rattle.pieces.proofs.PieceLaws.{live_free, not_free}
use Rattle.pieces.specs.Pieces.{piece, class_of, IsFree}
use Rattle.pieces.specs.declared.Class.TheVariants.{Large}
use Rattle.pieces.specs.declared.Class.{Class}
use Rattle.pieces.specs.declared.Piece.{Piece}
use Rattle.pieces.specs.declared.Status.TheVariants.{Live, Free}
use Rattle.pieces.specs.declared.Status.{Status}
use Rattle.table.proofs.Canon.{canonical}
use Rattle.table.proofs.Chain.{Entry, ChainFrom, stop, step, Chain}
use Rattle.table.proofs.LivesLaws.{lives_free_append, lives_append}
use Rattle.table.specs.Fill.{lives, free}
use Rattle.literal.specs.Statements.{FileOf}

-- ---- the same entry in another place

-- behind an entry of status u, and before the entries ys
entry_moved : {P : ℕ} {s t : Status} {a z : ℕ} {es : List Piece} (u : Status) (ys : List Piece) → Entry P s a z t es
    → (¬ Border P a → class_of u ≡ class_of t) → (¬ Border P a → IsFree u → IsFree t → ⊥) → (u ≡ Free Large → t ≡ Free Large → ⊥)
    → (ys ≡ [] → t ≡ Free Large → z < P) → Entry P u a z t ys
entry_moved u ys e f g h c =
    record {
      some = e.some;
      small = e.small;
      aligned = e.aligned;
      whole = e.whole;
      family = f;
      merged = g;
      large_merged = h;
      cut = c;
    }

pub entry_before : {P : ℕ} {s t : Status} {a z : ℕ} {es : List Piece} (ys : List Piece) → Entry P s a z t es
    → (ys ≡ [] → t ≡ Free Large → z < P) → Entry P s a z t ys
entry_before {s = s} ys e h = entry_moved s ys e e.family e.merged e.large_merged h

pub entry_behind : {P : ℕ} {s t : Status} {a z : ℕ} {es : List Piece} (u : Status) → Entry P s a z t es
    → (¬ Border P a → class_of u ≡ class_of t) → (¬ Border P a → IsFree u → IsFree t → ⊥) → (u ≡ Free Large → t ≡ Free Large → ⊥)
    → Entry P u a z t es
entry_behind {es = es} u e f g h = entry_moved u es e f g h e.cut

-- ---- what may follow what

-- what follows a free entry may follow a live one of its class
pub chain_live : {P E : ℕ} {c : Class} {a : ℕ} {es : List Piece} → ChainFrom P E (Free c) a es → ChainFrom P E (Live c) a es
chain_live (stop q b) = stop q b
chain_live {c = c} (step e r) =
    step (entry_behind (Live c) e e.family (λ nb x y. not_free x) (λ x y. live_free x)) r

-- what starts at a border may follow any entry that is not free large
pub chain_border : {P E : ℕ} {s : Status} {a : ℕ} {es : List Piece} (u : Status) → Border P a → (u ≡ Free Large → ⊥)
    → ChainFrom P E s a es → ChainFrom P E u a es
chain_border u b h (stop q b') = stop q b'
chain_border u b h (step e r) = step (entry_behind u e (λ nb. absurd (nb b)) (λ nb x y. nb b) (λ x y. h x)) r

-- ---- the entries before a place

-- the status of the nearest entry; outside the table all is as beside a live large one
abbrev pub nearest : List Piece → Status
nearest [] = Live Large
nearest (x ∷ xs) = x.status

-- ls, the nearest first, are the entries of a table before a
pub data Upto (P : ℕ) : ℕ → List Piece → Type 0 where
  start : Upto P 0 []
  add : {a z : ℕ} {t : Status} {ls es : List Piece} → Upto P a ls → Entry P (nearest ls) a z t es
      → Upto P (a + z) (piece a z t ∷ ls)

pub upto_chain : {P E a : ℕ} {ls ys : List Piece} → Upto P a ls → ChainFrom P E (nearest ls) a ys
    → (ys ≡ [] → nearest ls ≡ Free Large → ⊥) → Chain P E (reverse_aux ls ys)
upto_chain start r h = r
upto_chain {ys = ys} (add u e) r h = upto_chain u (step (entry_before ys e (λ x y. absurd (h x y))) r) (λ x y. cons≢nil x)

-- ---- live pieces

pub lives_only_free : (c : Class) (a b : ℕ) → lives (free c a b) ≡ []
unfolding lives
lives_only_free c a b = ap lives (sym (append-nil (free c a b))) ∙ lives_free_append c a b []

pub lives_around : (ls ys : List Piece) → lives (reverse_aux ls ys) ≡ lives (reverse ls) ++ lives ys
lives_around ls ys = ap lives (reverse_aux-eq ls ys) ∙ lives_append (reverse ls) ys

-- a free entry changes none of them
pub lives_skip : (ls : List Piece) (x : Piece) (ys : List Piece) {k : Class} → x.status ≡ Free k
    → lives (reverse_aux ls (x ∷ ys)) ≡ lives (reverse_aux ls ys)
unfolding lives
lives_skip ls x ys q = lives_around ls (x ∷ ys) ∙ (rw q (sym (lives_around ls ys)))

pub lives_free_between : (ls : List Piece) (c : Class) (a b : ℕ) (ys : List Piece)
    → lives (reverse_aux ls (free c a b ++ ys)) ≡ lives (reverse_aux ls ys)
unfolding lives
lives_free_between ls c a b ys = lives_around ls (free c a b ++ ys) ∙ (rw lives_free_append (sym (lives_around ls ys)))

pub lives_free_last : (ls : List Piece) (c : Class) (a b : ℕ) → lives (reverse_aux ls (free c a b)) ≡ lives (reverse_aux ls [])
lives_free_last ls c a b = ap (λ (l : List Piece). lives (reverse_aux ls l)) (sym (append-nil (free c a b))) ∙ lives_free_between ls c a b []

-- ---- a table is determined by its live pieces

pub file_of_chain : {P E : ℕ} {es : List Piece} (ps : List Piece) → 0 < P → Chain P E es → lives es ≡ ps
    → FileOf P (record { entries = es; end = E }) ps
file_of_chain ps pos c e = let h = canonical pos c in record { entries = rw e at h.0; ends = rw e at h.1 }
