-- The laws of what bytes say.
--
-- In this order: addresses; bytes say the fields that are read out of them, and no others; the message of fields is read back by the bytes in
-- front of which it stands; bytes are the message of the fields that they say. Head and addresses are taken apart once, and the addresses'
-- laws hold for any number of them, so that no law here goes by the length of a message; that `Addresses` goes by persist is met in `six_said`.
--
-- Not here: which fields are legal (RuleLaws).
use Prim.Native.Nat.{ℕ, ◌+◌, ◌-◌, ◌*◌, ◌^◌, ◌≤◌, ◌<◌}
use mathlib.Core.List.{List, [], ◌++◌}
use mathlib.Core.Path.{◌≡◌, refl, sym, ap, ◌∙◌}
use native.Mathlib.Omega.{arith}
use lib.ListN.{length, take, drop, get_or, length-append, length-drop, take-append-drop}
use lib.Seq.{ext_get_or, get_or-take, get_or-drop, length-take-le, take_at, drop_at}
use Rattle.little.proofs.LittleLaws.{front_split, take_part, little_bytes_of, length_bytes_of, bytes_of_part, length_part, bytes_part, value_lt}
use Rattle.little.proofs.LittleLaws.{below_take, below_drop, below_append}
use Rattle.little.specs.Little.{byte_values, little, bytes_of, part, value_at, Bytes, Below}
use Rattle.message_promises.proofs.RuleLaws.{OthersAbsent}
use Rattle.message_promises.specs.Promises.{Undefined, Addresses, Says}
use Rattle.message_bytes.proofs.PartLaws.{length_head, length_both, fields_read}
use Rattle.message_bytes.proofs.TailLaws.{length_addresses_at, below_addresses, address_there, address_absent, tail_read, read_tail}
use Rattle.message_bytes.specs.Parts.{head_with, fields_of, head_of, message_of}
use Rattle.message_bytes.specs.Tail.{addresses_at, tail_of}
use Rattle.message_fields.proofs.FieldLaws.{count_without, count_with, count_most, length_by_count}
use Rattle.message_fields.specs.Fields.{version, Held, address_count, length_of}
use Rattle.message_fields.specs.Layout.{version_at, strategy_at, persist_at, threshold_at, page_at, page_end_at, eoa_at, head_length, small_at, large_at}
use Rattle.message_fields.specs.Layout.{types, address_width, most_addresses}
use Rattle.message_fields.specs.declared.Fields.{Fields}
use Rattle.pages.proofs.Numbers.{split}

-- ---- addresses

-- all addresses of a message with the persist byte p in front of b
abbrev all_at : ℕ → List ℕ → List ℕ
all_at p b = addresses_at head_length (address_count p) b

length_all : (p : ℕ) (b : List ℕ) → length (all_at p b) ≡ most_addresses
length_all p b = length_addresses_at head_length (address_count p) (count_most p) b

-- vs are six of them, from one on
module _ (p from : ℕ) (b vs : List ℕ) (m : from + types ≤ most_addresses) (n : length vs ≡ types)
    (e : (i : ℕ) → i < types → get_or vs i 0 ≡ get_or (all_at p b) (from + i) 0) where
  six_absent : p ≡ 0 → Undefined vs
  six_absent z i l =
      let k : i < types = omega arith in
      e i k ∙ address_absent head_length (address_count p) (count_most p) b (from + i) (omega (arith, count_without p z)) (omega arith)

  six_there : 0 < p → (i : ℕ) → i < types
      → get_or vs i 0
      ≡ value_at (head_length + from * address_width + i * address_width) (head_length + from * address_width + (i * address_width + address_width)) b
  six_there h i l =
      let k : from + i < address_count p = omega (arith, count_with p (λ z. omega arith)) in
      let starts : head_length + (from + i) * address_width ≡ head_length + from * address_width + i * address_width = omega arith in
      let ends : head_length + ((from + i) * address_width + address_width) ≡ head_length + from * address_width + (i * address_width + address_width) =
      omega arith in
      e i l ∙ rw (← starts, ← ends) (address_there head_length (address_count p) (count_most p) b (from + i) k)

  said_six : Addresses p (head_length + from * address_width) vs b
  said_six = record { six = n; absent = six_absent; there = six_there }

  six_said : {us : List ℕ} → Addresses p (head_length + from * address_width) us b → us ≡ vs
  six_said {us} a =
      ext_get_or 0 us vs (a.six ∙ sym n)
      (λ i h.
      let k : i < types = omega (arith, a.six) in
      let j : i < length vs = omega arith in
      split 1 p
      (λ l. a.there l i k ∙ sym (six_there l i k))
      (λ l. let z : p ≡ 0 = omega arith in a.absent z i h ∙ sym (six_absent z i j)))

module _ (p : ℕ) (b : List ℕ) where
  length_small : length (take types (all_at p b)) ≡ types
  length_small = length-take-le types (all_at p b) (omega (arith, length_all p b))

  length_large : length (drop types (all_at p b)) ≡ types
  length_large = length-drop types (all_at p b) ∙ omega (arith, length_all p b)

  small_from : (i : ℕ) → i < types → get_or (take types (all_at p b)) i 0 ≡ get_or (all_at p b) (0 + i) 0
  small_from i h = let z : 0 + i ≡ i = omega arith in get_or-take types (all_at p b) i 0 h ∙ ap (λ (j : ℕ). get_or (all_at p b) j 0) (sym z)

  large_from : (i : ℕ) → i < types → get_or (drop types (all_at p b)) i 0 ≡ get_or (all_at p b) (types + i) 0
  large_from i h = get_or-drop types (all_at p b) i 0

  said_small : Addresses p small_at (take types (all_at p b)) b
  said_small = said_six p 0 b (take types (all_at p b)) (omega arith) length_small small_from

  said_large : Addresses p large_at (drop types (all_at p b)) b
  said_large = said_six p types b (drop types (all_at p b)) (omega arith) length_large large_from

  small_said : {vs : List ℕ} → Addresses p small_at vs b → vs ≡ take types (all_at p b)
  small_said a = six_said p 0 b (take types (all_at p b)) (omega arith) length_small small_from a

  large_said : {vs : List ℕ} → Addresses p large_at vs b → vs ≡ drop types (all_at p b)
  large_said a = six_said p types b (drop types (all_at p b)) (omega arith) length_large large_from a

  below_all : Bytes b → Below address_width (all_at p b)
  below_all h = below_addresses head_length (address_count p) (count_most p) b h

-- ---- what bytes say

pub says_fields : (b : List ℕ) → length_of (fields_of b) ≤ length b → value_at version_at strategy_at b ≡ version → Says (fields_of b) b
unfolding head_with
says_fields b h e =
    record {
      room = h;
      edition = e;
      strategy = refl;
      persist = refl;
      threshold = refl;
      page = refl;
      page_end = refl;
      eoa = refl;
      small = said_small (value_at persist_at threshold_at b) b;
      large = said_large (value_at persist_at threshold_at b) b;
    }

pub fields_said : {f : Fields} {b : List ℕ} → Says f b → f ≡ fields_of b
fields_said {f} {b} s =
    let p = value_at persist_at threshold_at b in
    fields_read b (all_at p b) s.strategy s.persist s.threshold s.page s.page_end s.eoa
    (small_said p b (rw s.persist at s.small))
    (large_said p b (rw s.persist at s.large))

pub held_fields : (b : List ℕ) → Bytes b → Held (fields_of b)
unfolding head_with
held_fields b h =
    let p = value_at persist_at threshold_at b in
    record {
      strategy = value_lt strategy_at persist_at b h;
      persist = value_lt persist_at threshold_at b h;
      threshold = value_lt threshold_at page_at b h;
      page = value_lt page_at page_end_at b h;
      page_end = value_lt page_end_at eoa_at b h;
      eoa = value_lt eoa_at head_length b h;
      six_small = length_small p b;
      small = below_take address_width types (all_at p b) (below_all p b h);
      six_large = length_large p b;
      large = below_drop address_width types (all_at p b) (below_all p b h);
    }

-- ---- the message of fields is read back

-- a number is read out of the part that it was laid in
value_of : (from to v : ℕ) (b : List ℕ) → v < byte_values ^ (to - from) → part from to b ≡ bytes_of (to - from) v → v ≡ value_at from to b
value_of from to v b h e = sym (ap little e ∙ little_bytes_of (to - from) v h)

module _ (f : Fields) (b : List ℕ) (h : Held f) where
  addresses_back : OthersAbsent f → part head_length (length_of f) b ≡ tail_of (address_count f.persist) (f.small ++ f.large)
      → f.small ++ f.large ≡ all_at f.persist b
  addresses_back a e =
      sym
      (tail_read head_length (address_count f.persist) (count_most f.persist) b (f.small ++ f.large) (length_both f h.six_small h.six_large)
      (below_append address_width f.small f.large h.small h.large) a (rw (length_by_count f) at e))

  pub message_said : OthersAbsent f → length_of f ≤ length b → take (length_of f) b ≡ message_of f → Says f b
  unfolding head_of message_of
  message_said a l e =
      let p₁ = bytes_of (strategy_at - version_at) version in
      let p₂ = p₁ ++ bytes_of (persist_at - strategy_at) f.strategy in
      let p₃ = p₂ ++ bytes_of (threshold_at - persist_at) f.persist in
      let p₄ = p₃ ++ bytes_of (page_at - threshold_at) f.threshold in
      let p₅ = p₄ ++ bytes_of (page_end_at - page_at) f.page in
      let p₆ = p₅ ++ bytes_of (eoa_at - page_end_at) f.page_end in
      let l₆ : length p₆ ≡ eoa_at = simp (length-append, length_bytes_of) in
      let l₅ : length p₅ ≡ page_end_at = simp (length-append, length_bytes_of) in
      let l₄ : length p₄ ≡ page_at = simp (length-append, length_bytes_of) in
      let l₃ : length p₃ ≡ threshold_at = simp (length-append, length_bytes_of) in
      let l₂ : length p₂ ≡ persist_at = simp (length-append, length_bytes_of) in
      let l₁ : length p₁ ≡ strategy_at = length_bytes_of (strategy_at - version_at) version in
      let s₇ = front_split (head_of f) _ b head_length (length_of f) (length_head f) (omega (arith, length_by_count f)) e in
      let s₆ = front_split p₆ _ b eoa_at head_length l₆ (omega arith) s₇.0 in
      let s₅ = front_split p₅ _ b page_end_at eoa_at l₅ (omega arith) s₆.0 in
      let s₄ = front_split p₄ _ b page_at page_end_at l₄ (omega arith) s₅.0 in
      let s₃ = front_split p₃ _ b threshold_at page_at l₃ (omega arith) s₄.0 in
      let s₂ = front_split p₂ _ b persist_at threshold_at l₂ (omega arith) s₃.0 in
      let s₁ = front_split p₁ _ b strategy_at persist_at l₁ (omega arith) s₂.0 in
      let both = addresses_back a s₇.1 in
      let small : f.small ≡ take types (all_at f.persist b) =
      sym (take_at f.small f.large types h.six_small) ∙ ap (λ (vs : List ℕ). take types vs) both in
      let large : f.large ≡ drop types (all_at f.persist b) =
      sym (drop_at f.small f.large types h.six_small) ∙ ap (λ (vs : List ℕ). drop types vs) both in
      record {
        room = l;
        edition = sym (value_of version_at strategy_at version b (omega arith) s₁.0);
        strategy = value_of strategy_at persist_at f.strategy b h.strategy s₁.1;
        persist = value_of persist_at threshold_at f.persist b h.persist s₂.1;
        threshold = value_of threshold_at page_at f.threshold b h.threshold s₃.1;
        page = value_of page_at page_end_at f.page b h.page s₄.1;
        page_end = value_of page_end_at eoa_at f.page_end b h.page_end s₅.1;
        eoa = value_of eoa_at head_length f.eoa b h.eoa s₆.1;
        small = rw small (said_small f.persist b);
        large = rw large (said_large f.persist b);
      }

-- ---- bytes are the message of the fields that they say

front_number : (b : List ℕ) → Bytes b → (from to : ℕ) → from ≤ to → to ≤ length b → {p : List ℕ} {v : ℕ} → p ≡ take from b → v ≡ value_at from to b
    → p ++ bytes_of (to - from) v ≡ take to b
front_number b h from to l m e d =
    rw (e, d, bytes_of_part (to - from) (part from to b) (bytes_part from to b h) (length_part from to b l m)) (take_part from to b l)

head_front : {f : Fields} {b : List ℕ} → Bytes b → Says f b → head_of f ≡ take head_length b
unfolding head_of
head_front {f} {b} h s =
    let r : head_length ≤ length b = omega (arith, s.room, length_by_count f) in
    let e₁ = front_number b h version_at strategy_at (omega arith) (omega arith) {p = []} refl (sym s.edition) in
    let e₂ = front_number b h strategy_at persist_at (omega arith) (omega arith) e₁ s.strategy in
    let e₃ = front_number b h persist_at threshold_at (omega arith) (omega arith) e₂ s.persist in
    let e₄ = front_number b h threshold_at page_at (omega arith) (omega arith) e₃ s.threshold in
    let e₅ = front_number b h page_at page_end_at (omega arith) (omega arith) e₄ s.page in
    let e₆ = front_number b h page_end_at eoa_at (omega arith) (omega arith) e₅ s.page_end in
    front_number b h eoa_at head_length (omega arith) (omega arith) e₆ s.eoa

pub said_message : {f : Fields} {b : List ℕ} → Bytes b → Says f b → message_of f ≡ take (length_of f) b
unfolding message_of
said_message {f} {b} h s =
    let p = f.persist in
    let both : f.small ++ f.large ≡ all_at p b = rw (small_said p b s.small, large_said p b s.large) (take-append-drop types (all_at p b)) in
    let there : head_length + address_count p * address_width ≤ length b = omega (arith, s.room, length_by_count f) in
    rw (head_front h s, both, read_tail head_length (address_count p) (count_most p) b h there, length_by_count f)
    (take_part head_length (head_length + address_count p * address_width) b (omega arith))
