-- The laws of the addresses behind a head, over the place where it ends and their number.
--
-- In this order: no addresses, and all of them; how many addresses and bytes there are, and how large; the address at a place; what is laid is
-- read, and what is read is laid.
--
-- Not here: laws of numbers in bytes (little/proofs/LittleLaws.antt).
use Prim.Native.Nat.{ℕ, ◌+◌, ◌-◌, ◌*◌, ◌≤◌, ◌<◌}
use mathlib.Core.List.{List, [], ◌++◌, append-nil}
use mathlib.Core.Path.{◌≡◌, refl, sym, ap, ◌∙◌}
use native.Mathlib.Omega.{arith}
use lib.Dec.{lit<}
use lib.ListN.{length, take, drop, get_or, length-append, length-replicate, get_or-replicate, get_or-append, take-append-drop}
use lib.Seq.{length-take-le, take_all, take_at, drop_at, get_or-append-add, drop-drop}
use Rattle.little.proofs.LittleLaws.{length_numbers, length_bytes_of_all, numbers_bytes_of_all, bytes_of_all_numbers, numbers_part, numbers_add, get_d_numbers}
use Rattle.little.proofs.LittleLaws.{below_take, below_append, below_replicate, below_numbers, bytes_drop, bytes_part, length_part}
use Rattle.little.specs.Little.{numbers, bytes_of_all, part, value_at, Bytes, Below}
use Rattle.message_bytes.specs.Tail.{absent, addresses_of, addresses_at, tail_of}
use Rattle.message_fields.specs.Layout.{types, address_width, addresses_length, most_addresses}
use Rattle.message_fields.specs.Legal.{undefined}

-- ---- no addresses, and all of them

pub tail_none : (vs : List ℕ) → tail_of 0 vs ≡ []
unfolding tail_of bytes_of_all
tail_none vs = refl

pub tail_all : (vs : List ℕ) → length vs ≡ most_addresses → tail_of most_addresses vs ≡ bytes_of_all address_width vs
unfolding tail_of
tail_all vs l = ap (bytes_of_all address_width) (take_all most_addresses vs (omega arith))

module _ (at : ℕ) (b : List ℕ) where
  pub addresses_none : addresses_at at 0 b ≡ absent most_addresses
  unfolding addresses_at numbers
  addresses_none = refl

  addresses_all : addresses_at at most_addresses b ≡ addresses_of (drop at b) ++ addresses_of (drop addresses_length (drop at b))
  unfolding addresses_at
  addresses_all = append-nil (numbers address_width most_addresses (drop at b)) ∙ numbers_add address_width types types (drop at b)

  -- the first half of them, and the second
  pub small_all : take types (addresses_at at most_addresses b) ≡ addresses_of (part at (at + addresses_length) b)
  small_all =
      ap (λ (l : List ℕ). take types l) addresses_all
      ∙ take_at (addresses_of (drop at b)) _ types (length_numbers address_width types (drop at b))
      ∙ sym (numbers_part address_width types at b)

  pub large_all : drop types (addresses_at at most_addresses b) ≡ addresses_of (part (at + addresses_length) (at + addresses_length + addresses_length) b)
  large_all =
      ap (λ (l : List ℕ). drop types l) addresses_all
      ∙ drop_at (addresses_of (drop at b)) _ types (length_numbers address_width types (drop at b))
      ∙ ap addresses_of (drop-drop addresses_length at b)
      ∙ sym (numbers_part address_width types (at + addresses_length) b)

-- ---- how many

pub length_tail : (k : ℕ) (vs : List ℕ) → k ≤ length vs → length (tail_of k vs) ≡ k * address_width
unfolding tail_of
length_tail k vs h = length_bytes_of_all address_width (take k vs) ∙ ap (λ (n : ℕ). n * address_width) (length-take-le k vs h)

module _ (at k : ℕ) (h : k ≤ most_addresses) (b : List ℕ) where
  pub length_addresses_at : length (addresses_at at k b) ≡ most_addresses
  unfolding addresses_at
  length_addresses_at = simp (length-append, length_numbers, length-replicate) (omega arith)

  pub below_addresses : Bytes b → Below address_width (addresses_at at k b)
  unfolding addresses_at
  below_addresses w =
      below_append address_width (numbers address_width k (drop at b)) (absent (most_addresses - k))
      (below_numbers address_width k (drop at b) (bytes_drop at b w))
      (below_replicate address_width (most_addresses - k) undefined (lit< tt))

  -- ---- the address at a place

  pub address_there : (i : ℕ) → i < k → get_or (addresses_at at k b) i 0 ≡ value_at (at + i * address_width) (at + (i * address_width + address_width)) b
  unfolding addresses_at
  address_there i l =
      let n : i < length (numbers address_width k (drop at b)) = simp length_numbers l in
      let e : i * address_width + address_width - i * address_width ≡ at + (i * address_width + address_width) - (at + i * address_width) = omega arith in
      get_or-append (numbers address_width k (drop at b)) (absent (most_addresses - k)) 0 i n
      ∙ get_d_numbers address_width k i (drop at b) l
      ∙ rw (drop-drop (i * address_width) at b, e)

  pub address_absent : (i : ℕ) → k ≤ i → i < most_addresses → get_or (addresses_at at k b) i 0 ≡ undefined
  unfolding addresses_at
  address_absent i l m =
      let n : length (numbers address_width k (drop at b)) + (i - k) ≡ i = simp length_numbers (omega arith) in
      ap (λ (j : ℕ). get_or (numbers address_width k (drop at b) ++ absent (most_addresses - k)) j 0) (sym n)
      ∙ get_or-append-add (numbers address_width k (drop at b)) (absent (most_addresses - k)) (i - k) 0
      ∙ get_or-replicate (most_addresses - k) (i - k) undefined 0 (omega arith)

  -- ---- laid and read

  pub tail_read : (vs : List ℕ) → length vs ≡ most_addresses → Below address_width vs → drop k vs ≡ absent (most_addresses - k)
      → part at (at + k * address_width) b ≡ tail_of k vs → addresses_at at k b ≡ vs
  unfolding addresses_at tail_of
  tail_read vs l w a e =
      let m : k ≤ length vs = omega arith in
      let n : numbers address_width k (bytes_of_all address_width (take k vs)) ≡ numbers address_width (length (take k vs)) (bytes_of_all address_width (take k vs)) =
      ap (λ (j : ℕ). numbers address_width j (bytes_of_all address_width (take k vs))) (sym (length-take-le k vs m)) in
      let there : numbers address_width k (drop at b) ≡ take k vs =
      sym (numbers_part address_width k at b)
      ∙ ap (numbers address_width k) e
      ∙ n
      ∙ numbers_bytes_of_all address_width (take k vs) (below_take address_width k vs w) in
      rw (there, ← a) (take-append-drop k vs)

  pub read_tail : Bytes b → at + k * address_width ≤ length b → tail_of k (addresses_at at k b) ≡ part at (at + k * address_width) b
  unfolding addresses_at tail_of
  read_tail w l =
      let n : length (part at (at + k * address_width) b) ≡ k * address_width =
      length_part at (at + k * address_width) b (omega arith) l ∙ omega arith in
      ap (bytes_of_all address_width) (take_at (numbers address_width k (drop at b)) _ k (length_numbers address_width k (drop at b)) ∙ sym (numbers_part address_width k at b))
      ∙ bytes_of_all_numbers address_width k (part at (at + k * address_width) b) (bytes_part at (at + k * address_width) b w) n
