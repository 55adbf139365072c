-- The laws of a block.
--
--   zerob_all        whether bytes are 0, each of them
--   fullb b .. behindb b             the rules of a block, by themselves
--   short_block .. behind_not        a block is refused by the one rule that it breaks
--   Kept i b                         the block b keeps all rules but the check; block-checked, it is good by its check
--   good_kept                        a good block keeps all rules
--   block_full, block_number, block_some, block_most   what a good block has: its bytes, a number of four bytes, 1 to 12 records
use Prim.Native.Nat.{ℕ, ◌^◌, ◌≤◌, ◌<◌}
use mathlib.Core.Bool.{Bool, true, false, ◌&&◌}
use mathlib.Core.List.{List, [], ◌∷◌}
use Rattle.std.specs.List.{list_all}
use mathlib.Core.Path.{◌≡◌, refl, sym, ap}
use lib.Dec.{eqb, leb}
use lib.ListN.{length}
use Rattle.little.specs.Little.{byte_values, part, value_at, Bytes}
use Rattle.little.proofs.LittleLaws.{value_lt}
use Rattle.log_blocks.specs.Blocks.{count_at, head_zeros_at, records_at, most_records, number_in, count_in, records_in, behind_at, zerob, blockb}
use Rattle.log_blocks.specs.Records.{recordsb}
use Rattle.log_check.specs.Check.{block_bytes, check_at, checkb}
use Rattle.pages.proofs.Numbers.{and_left, and_right, and-false, both}
use borrow.Author.Tests.{eqb-true, leb-true, eq-eqb, ne_eqb, le-leb, lt-leb}

-- ---- bytes that are 0

pub zerob_all : (bs : List ℕ) → list_all (λ v. eqb v 0) bs ≡ zerob bs
unfolding zerob
zerob_all [] = refl
zerob_all (v ∷ bs) = ap (λ t. eqb v 0 && t) (zerob_all bs)

-- ---- a rule that is broken

later : {t : Bool} (s : Bool) → false ≡ t → false ≡ (s && t)
later s e = sym (and-false s (sym e))

abbrev fullb : List ℕ → Bool
fullb b = eqb (length b) block_bytes

abbrev numberb : ℕ → List ℕ → Bool
numberb i b = eqb (number_in b) i

abbrev countb : List ℕ → Bool
countb b = leb 1 (count_in b) && leb (count_in b) most_records

abbrev headb : List ℕ → Bool
headb b = eqb (value_at head_zeros_at records_at b) 0

abbrev records_ok : ℕ → List ℕ → Bool
records_ok i b = recordsb (eqb i 0) (records_in b)

abbrev behindb : List ℕ → Bool
behindb b = zerob (part (behind_at b) check_at b)

pub short_block : (i : ℕ) (b : List ℕ) → (length b ≡ block_bytes → ⊥) → false ≡ blockb i b
unfolding blockb
short_block i b h = rw (ne_eqb (length b) block_bytes h) refl

pub other_number : (i : ℕ) (b : List ℕ) {v : ℕ} → v ≡ number_in b → (v ≡ i → ⊥) → false ≡ blockb i b
unfolding blockb
other_number i b {v} e h = later (fullb b) (rw (← e, ne_eqb v i h) refl)

pub no_records : (i : ℕ) (b : List ℕ) {n : ℕ} → n ≡ count_in b → n < 1 → false ≡ blockb i b
unfolding blockb
no_records i b {n} e h = later (fullb b) (later (numberb i b) (rw (← e, lt-leb 1 n h) refl))

pub many_records : (i : ℕ) (b : List ℕ) {n : ℕ} → n ≡ count_in b → most_records < n → false ≡ blockb i b
unfolding blockb
many_records i b {n} e h = later (fullb b) (later (numberb i b) (rw (← e, lt-leb n most_records h, and-false (leb 1 n) refl) refl))

pub head_not : (i : ℕ) (b : List ℕ) {v : ℕ} → v ≡ value_at head_zeros_at records_at b → (v ≡ 0 → ⊥) → false ≡ blockb i b
unfolding blockb
head_not i b {v} e h = later (fullb b) (later (numberb i b) (later (countb b) (rw (← e, ne_eqb v 0 h) refl)))

pub records_not : (i : ℕ) (b : List ℕ) → records_ok i b ≡ false → false ≡ blockb i b
unfolding blockb
records_not i b e = later (fullb b) (later (numberb i b) (later (countb b) (later (headb b) (rw e refl))))

pub behind_not : (i : ℕ) (b : List ℕ) → behindb b ≡ false → false ≡ blockb i b
unfolding blockb
behind_not i b e =
    later (fullb b) (later (numberb i b) (later (countb b) (later (headb b) (later (records_ok i b) (rw e refl)))))

-- ---- all rules but the check

pub record Kept (i : ℕ) (b : List ℕ) : Type 0 where
  pub full : length b ≡ block_bytes
  pub number : number_in b ≡ i
  pub some : 1 ≤ count_in b
  pub most : count_in b ≤ most_records
  pub head : value_at head_zeros_at records_at b ≡ 0
  pub records : records_ok i b ≡ true
  pub behind : behindb b ≡ true

pub block_checked : (i : ℕ) (b : List ℕ) → Kept i b → checkb b ≡ blockb i b
unfolding blockb
block_checked i b k =
    let f = eq-eqb (length b) block_bytes k.full in
    let n = eq-eqb (number_in b) i k.number in
    let c = both (leb 1 (count_in b)) (leb (count_in b) most_records) (le-leb 1 (count_in b) k.some) (le-leb (count_in b) most_records k.most) in
    let h = eq-eqb (value_at head_zeros_at records_at b) 0 k.head in
    rw (f, n, c, h, k.records, k.behind) refl

-- ---- what a good block has

pub good_kept : (i : ℕ) (b : List ℕ) → blockb i b ≡ true → Kept i b × (checkb b ≡ true)
unfolding blockb
good_kept i b e =
    let e1 = and_right (fullb b) _ e in
    let e2 = and_right (numberb i b) _ e1 in
    let e3 = and_right (countb b) _ e2 in
    let e4 = and_right (headb b) _ e3 in
    let e5 = and_right (records_ok i b) _ e4 in
    let count = and_left (countb b) _ e2 in
    let kept : Kept i b =
    record {
      full = eqb-true (length b) block_bytes (and_left (fullb b) _ e);
      number = eqb-true (number_in b) i (and_left (numberb i b) _ e1);
      some = leb-true 1 (count_in b) (and_left (leb 1 (count_in b)) _ count);
      most = leb-true (count_in b) most_records (and_right (leb 1 (count_in b)) _ count);
      head = eqb-true (value_at head_zeros_at records_at b) 0 (and_left (headb b) _ e3);
      records = and_left (records_ok i b) _ e4;
      behind = and_left (behindb b) _ e5;
    } in
    (kept, and_right (behindb b) _ e5)

pub block_full : (i : ℕ) (b : List ℕ) → blockb i b ≡ true → length b ≡ block_bytes
block_full i b e = (good_kept i b e).0.full

pub block_number : (i : ℕ) (b : List ℕ) → Bytes b → blockb i b ≡ true → i < byte_values ^ count_at
block_number i b h e = rw (← (good_kept i b e).0.number) (value_lt 0 count_at b h)

pub block_some : (i : ℕ) (b : List ℕ) → blockb i b ≡ true → 1 ≤ count_in b
block_some i b e = (good_kept i b e).0.some

pub block_most : (i : ℕ) (b : List ℕ) → blockb i b ≡ true → count_in b ≤ most_records
block_most i b e = (good_kept i b e).0.most
