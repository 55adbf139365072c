-- The summary a second time: what each of its numbers is, and not how it is found.
--
--   Section k x            x is a free section of the manager of class k
--   InDecade d z           decade d counts a size of z bytes: it is at least 10^d, unless d is the first, and below 10^(d + 1), unless d is the last
--   SectionIn d x          x is a free section, of any manager, that decade d counts
--   HowMany Q es n         n of the entries es have the property Q
--   BytesAre Q es b        the sizes of those that have it add up to b
--   LargestIs Q es z       none of es has it, and z is 0; or one of the size z has it, and none that has it is larger
--   Summarises es s        each number of the summary s, but for the signed one, is what the request says of the entries es
--   SummaryRight           `summary_of` (Summary.antt) is such
--   OneSummary             and there is no other
--   AgreementRight         `agreesb` tells those that are such, whatever the signed number
--
-- The statements are proved in proofs/Described.antt.
use Rattle.std.specs.Prelude.{true, ◌≡◌, ℕ, suc, ◌+◌, ◌^◌, ◌≤◌, ◌<◌, ℤ, length, get_or}
use mathlib.Core.List.{List, [], ◌∷◌, Memᴰ}
use Rattle.pieces.specs.Pieces.{IsFree, manager_of}
use Rattle.pieces.specs.declared.Class.{Class}
use Rattle.pieces.specs.declared.Piece.{Piece}
use Rattle.pieces.specs.declared.Status.TheVariants.{Free}
use Rattle.totals.specs.Summary.{managers, ten, last_decade, decades, summary_of, agreesb}
use Rattle.totals.specs.declared.Summary.{Summary}

abbrev pub Section : Class → Piece → Type 0
Section k x = x.status ≡ Free k

pub record InDecade (d z : ℕ) : Type 0 where
  pub least : 1 ≤ d → ten ^ d ≤ z
  pub below : d < last_decade → z < ten ^ suc d

pub record SectionIn (d : ℕ) (x : Piece) : Type 0 where
  pub free : IsFree x.status
  pub size : InDecade d x.size

-- ---- of the entries that have a property

pub data HowMany (Q : Piece → Type 0) : List Piece → ℕ → Type 0 where
  no_entry : HowMany Q [] 0
  counted : {x : Piece} {es : List Piece} {n : ℕ} → Q x → HowMany Q es n → HowMany Q (x ∷ es) (suc n)
  not_counted : {x : Piece} {es : List Piece} {n : ℕ} → (Q x → ⊥) → HowMany Q es n → HowMany Q (x ∷ es) n

pub data BytesAre (Q : Piece → Type 0) : List Piece → ℕ → Type 0 where
  no_bytes : BytesAre Q [] 0
  added : {x : Piece} {es : List Piece} {b : ℕ} → Q x → BytesAre Q es b → BytesAre Q (x ∷ es) (x.size + b)
  not_added : {x : Piece} {es : List Piece} {b : ℕ} → (Q x → ⊥) → BytesAre Q es b → BytesAre Q (x ∷ es) b

pub data LargestIs (Q : Piece → Type 0) (es : List Piece) (z : ℕ) : Type 0 where
  none_has : ((x : Piece) → Memᴰ x es → Q x → ⊥) → z ≡ 0 → LargestIs Q es z
  one_has : (x : Piece) → Memᴰ x es → Q x → x.size ≡ z → ((y : Piece) → Memᴰ y es → Q y → y.size ≤ z) → LargestIs Q es z

-- ---- the summary

pub record Summarises (es : List Piece) (s : Summary) : Type 0 where
  pub long_sections : length s.sections ≡ managers
  pub long_bytes : length s.bytes ≡ managers
  pub long_largest : length s.largest ≡ managers
  pub long_decades : length s.decades ≡ decades
  -- for each manager the number of free sections, their bytes, the largest one
  pub sections : (k : Class) → HowMany (Section k) es (get_or s.sections (manager_of k) 0)
  pub bytes : (k : Class) → BytesAre (Section k) es (get_or s.bytes (manager_of k) 0)
  pub largest : (k : Class) → LargestIs (Section k) es (get_or s.largest (manager_of k) 0)
  -- over all managers, how many are in each decade
  pub in_decades : (d : ℕ) → d < decades → HowMany (SectionIn d) es (get_or s.decades d 0)

abbrev pub SummaryRight : Type 0
SummaryRight = (m : ℤ) (es : List Piece) → Summarises es (summary_of m es)

abbrev pub OneSummary : Type 0
OneSummary = (es : List Piece) (s : Summary) → Summarises es s → s ≡ summary_of s.moved es

abbrev pub AgreementRight : Type 0
AgreementRight =
    (es : List Piece) (s : Summary) → (agreesb s es ≡ true → Summarises es s) × (Summarises es s → agreesb s es ≡ true)
