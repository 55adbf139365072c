-- The laws of records.
--
--   length_records     bytes that are read as n records are n records
--   records_left n i b  of the n records in the block b those from the record i on
--   records_start, records_next, records_end   all of them, one and the rest, none
--   records_none, broken, kept   no record, a first one that breaks the rules, or keeps them
use Prim.Native.Nat.{ℕ, zero, suc, ◌+◌, ◌-◌, ◌*◌, ◌≤◌, ◌<◌}
use mathlib.Core.Bool.{Bool, true, false}
use mathlib.Core.List.{List, [], ◌∷◌}
use mathlib.Core.Path.{◌≡◌, refl, ap}
use native.Mathlib.Nat.{sub-zero}
use native.Mathlib.Omega.{arith}
use lib.ListN.{length, take, drop}
use lib.Seq.{drop-drop}
use Rattle.log_blocks.specs.Blocks.{records_at}
use Rattle.log_blocks.specs.Records.{record_bytes, record_in, records_from}
use Rattle.log_blocks.specs.Records.{recordb, recordsb}
use Rattle.log_blocks.specs.declared.records.Record.{Record}

-- ---- the records of a block

pub length_records : (n : ℕ) (b : List ℕ) → length (records_from n b) ≡ n
unfolding records_from
length_records zero b = refl
length_records (suc n) b = ap suc (length_records n (drop record_bytes b))

abbrev pub records_left : ℕ → ℕ → List ℕ → List Record
records_left n i b = records_from (n - i) (drop (records_at + i * record_bytes) b)

pub records_start : (n : ℕ) (b : List ℕ) → records_left n 0 b ≡ records_from n (drop records_at b)
records_start n b = rw sub-zero refl

pub records_next : (n i : ℕ) (b : List ℕ) → i < n
    → records_left n i b ≡ record_in (take record_bytes (drop (records_at + i * record_bytes) b)) ∷ records_left n (i + 1) b
unfolding records_from
records_next n i b h =
    let left : n - i ≡ suc (n - (i + 1)) = omega arith in
    let at : records_at + (i + 1) * record_bytes ≡ records_at + i * record_bytes + record_bytes = omega arith in
    rw (left, at, drop-drop) refl

pub records_end : (n i : ℕ) (b : List ℕ) → n ≤ i → records_left n i b ≡ []
unfolding records_from
records_end n i b h =
    let left : n - i ≡ zero = omega arith in
    rw left refl

pub records_none : (first : Bool) → true ≡ recordsb first []
unfolding recordsb
records_none first = refl

pub broken : (first : Bool) (r : Record) (rs : List Record) → recordb first r ≡ false → false ≡ recordsb first (r ∷ rs)
unfolding recordsb
broken first r rs e = rw e refl

pub kept : (first : Bool) (r : Record) (rs : List Record) → recordb first r ≡ true → recordsb false rs ≡ recordsb first (r ∷ rs)
unfolding recordsb
kept first r rs e = rw e refl
