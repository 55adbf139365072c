-- The sound tables, in document 01's own words and order. This is the one that a reader believes.
--
--   largest_limit                   M is at most this
--   least_capacity, largest_capacity  the fewest and the most entries that a lent table has room for
--   capacity len                    C: how many entries len words have room for
--   TableLength len                 the rule of the slice's length
--
--   Tiles E a es            the first entry starts at a, each next one starts where the former ends, the last ends at E
--   Touches P q x           the entry x has a byte in the page that starts at q
--   LiveIn P q es           one of es is live and has a byte in that page
--   Neighbours x y es       x and y are two entries of es in a row
--   Last x es               x is the last of es
--
--   Ranges P M E n len      the first rule but for the words behind the entries
--   SoundEntries P E es     the other rules, over the entries
--   Sound P M E n w         state and table are sound together
--
-- Assumes nothing.
use Rattle.std.specs.Prelude.{◌≡◌, ℕ, ◌+◌, ◌*◌, ◌/◌, ◌%◌, ◌^◌, ◌≤◌, ◌<◌, length}
use mathlib.Core.List.{List, [], ◌∷◌, Memᴰ}
use Rattle.pages.specs.Pages.{PageSize, Border, down}
use Rattle.pieces.specs.declared.Class.{Class}
use Rattle.pieces.specs.declared.Class.TheVariants.{Large}
use Rattle.pieces.specs.declared.Status.{Status}
use Rattle.pieces.specs.declared.Status.TheVariants.{Live, Free}
use Rattle.pieces.specs.declared.Piece.{Piece}
use Rattle.pieces.specs.Pieces.{piece, behind, class_of, Small, Kind}
use Rattle.pieces.specs.Words.{entry_words, kind_at, entries, Zeros}

abbrev pub largest_limit : ℕ
largest_limit = 2 ^ 62

abbrev pub least_capacity : ℕ
least_capacity = 4

abbrev pub largest_capacity : ℕ
largest_capacity = 1024

abbrev pub capacity : ℕ → ℕ
capacity len = len / entry_words

pub record TableLength (len : ℕ) : Type 0 where
  pub whole_entries : len % entry_words ≡ 0
  pub least : least_capacity * entry_words ≤ len
  pub largest : len ≤ largest_capacity * entry_words

-- ---- the vocabulary

pub data Tiles (E : ℕ) : ℕ → List Piece → Type 0 where
  tiled : {a : ℕ} → a ≡ E → Tiles E a []
  tile : {a z : ℕ} {t : Status} {es : List Piece} → Tiles E (a + z) es → Tiles E a (piece a z t ∷ es)

pub record Touches (P q : ℕ) (x : Piece) : Type 0 where
  pub low : x.address < q + P
  pub high : q < behind x

pub record LiveIn (P q : ℕ) (es : List Piece) : Type 0 where
  pub entry : Piece
  pub class : Class
  pub among : Memᴰ entry es
  pub live : entry.status ≡ Live class
  pub touches : Touches P q entry

pub data Neighbours (x y : Piece) : List Piece → Type 0 where
  here : {es : List Piece} → Neighbours x y (x ∷ y ∷ es)
  later : {z : Piece} {es : List Piece} → Neighbours x y es → Neighbours x y (z ∷ es)

pub data Last (x : Piece) : List Piece → Type 0 where
  last_one : Last x (x ∷ [])
  last_later : {z : Piece} {es : List Piece} → Last x es → Last x (z ∷ es)

-- ---- the rules

-- 512 <= P <= 1,073,741,824; P <= M <= 2^62; E is a multiple of P and E <= M; n <= C; the slice's length keeps its rule
pub record Ranges (P M E n len : ℕ) : Type 0 where
  pub page : PageSize P
  pub limit_least : P ≤ M
  pub limit_largest : M ≤ largest_limit
  pub end_border : Border P E
  pub end_limit : E ≤ M
  pub count : n ≤ capacity len
  pub slice : TableLength len

pub record SoundEntries (P E : ℕ) (es : List Piece) : Type 0 where
  -- sizes are at least 1
  pub filled : (x : Piece) → Memᴰ x es → 1 ≤ x.size
  -- the first entry starts at 0, each next one starts where the former ends, the last ends at E
  pub tiling : Tiles E 0 es
  -- entries of kinds 1, 2, 4, 5 are smaller than P and lie within one page
  pub small_under : (x : Piece) → Memᴰ x es → Small (class_of x.status) → x.size < P
  pub small_within : (x : Piece) → Memᴰ x es → Small (class_of x.status) → behind x ≤ down P x.address + P
  -- a page touched by one of them holds only kinds 1 and 4, or only 2 and 5, and holds at least one live entry
  pub one_family : (q : ℕ) → Border P q → (x y : Piece) → Memᴰ x es → Memᴰ y es → Small (class_of x.status)
      → Touches P q x → Touches P q y → class_of x.status ≡ class_of y.status
  pub some_live : (q : ℕ) → Border P q → (x : Piece) → Memᴰ x es → Small (class_of x.status) → Touches P q x → LiveIn P q es
  -- kind 3 starts at a multiple of P and has at least P bytes
  pub large_border : (x : Piece) → Memᴰ x es → x.status ≡ Live Large → Border P x.address
  pub large_whole : (x : Piece) → Memᴰ x es → x.status ≡ Live Large → P ≤ x.size
  -- no two neighbouring entries are both kind 6; no two neighbouring entries in one page are both kind 4 or both kind 5
  pub no_two_large : (x y : Piece) → Neighbours x y es → x.status ≡ Free Large → y.status ≡ Free Large → ⊥
  pub no_two_small : (x y : Piece) → Neighbours x y es → (c : Class) → Small c → x.status ≡ Free c → y.status ≡ Free c
      → down P x.address ≡ down P y.address → ⊥
  -- the last entry is not of kind 6 with P or more bytes
  pub last_cut : (x : Piece) → Last x es → x.status ≡ Free Large → x.size < P

pub record Sound (P M E n : ℕ) (w : List ℕ) : Type 0 where
  pub ranges : Ranges P M E n (length w)
  -- every word after the first 3n is 0
  pub zeros : Zeros w n
  -- kinds are 1 to 6
  pub kinds : (i : ℕ) → i < n → Kind (kind_at w i)
  pub rules : SoundEntries P E (entries w 0 n)
  -- n = 0 exactly when E = 0
  pub none_then_empty : n ≡ 0 → E ≡ 0
  pub empty_then_none : E ≡ 0 → n ≡ 0
