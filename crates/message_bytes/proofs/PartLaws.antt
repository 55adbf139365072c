-- The laws of the fields in bytes.
--
-- In this order: how long the parts are; how they are laid one behind the other; how they are read; how long the message is by its head.
--
-- Not here: laws of the addresses behind a head (TailLaws), of numbers in bytes (little/proofs/LittleLaws.antt).
use Prim.Native.Nat.{ℕ, ◌-◌, ◌≤◌}
use mathlib.Core.List.{List, [], ◌++◌, append-nil, append_assoc}
use mathlib.Core.Path.{◌≡◌, refl, sym, ap, ◌∙◌}
use native.Mathlib.Omega.{arith}
use lib.ListN.{length, take, drop, length-append, drop_of_length-le}
use borrow.Rule.Slice.PartMut.{put_mid}
use Rattle.little.proofs.LittleLaws.{Laid, length_bytes_of, length_bytes_of_all, bytes_of_all_append, laid_back, laid_none, laid_next, laid_number}
use Rattle.little.specs.Little.{bytes_of, bytes_of_all, part, value_at, laid}
use Rattle.message_bytes.proofs.TailLaws.{tail_none, tail_all, length_tail, addresses_none, small_all, large_all}
use Rattle.message_bytes.specs.Parts.{head_with, head_fields, fields_of, head_of, message_of}
use Rattle.message_bytes.specs.Tail.{addresses_of, addresses_at}
use Rattle.message_fields.proofs.FieldLaws.{count_without, count_with, count_most, length_by_count, length_without, length_with}
use Rattle.message_fields.specs.Fields.{version, address_count, length_of}
use Rattle.message_fields.specs.Layout.{version_at, strategy_at, persist_at, threshold_at, page_at, page_end_at, eoa_at, head_length, small_at, large_at}
use Rattle.message_fields.specs.Layout.{full_length, types, address_width, addresses_length, most_addresses}
use Rattle.message_fields.specs.declared.Fields.{Fields}

-- ---- lengths

pub length_head : (f : Fields) → length (head_of f) ≡ head_length
unfolding head_of
length_head f = simp (length-append, length_bytes_of)

length_addresses : (vs : List ℕ) → length vs ≡ types → length (bytes_of_all address_width vs) ≡ addresses_length
length_addresses vs l = length_bytes_of_all address_width vs ∙ rw l

module _ (f : Fields) (s : length f.small ≡ types) (l : length f.large ≡ types) where
  pub length_both : length (f.small ++ f.large) ≡ most_addresses
  length_both = length-append f.small f.large ∙ rw (s, l)

  pub length_message : length (message_of f) ≡ length_of f
  unfolding message_of
  length_message =
      let m : address_count f.persist ≤ length (f.small ++ f.large) = omega (arith, count_most f.persist, length_both) in
      length-append (head_of f) _
      ∙ rw (length_head f, length_tail (address_count f.persist) (f.small ++ f.large) m) (sym (length_by_count f))

-- ---- laid one behind the other

module _ (f : Fields) (h₀ h₁ h₂ h₃ h₄ h₅ h₆ h₇ : List ℕ) where
  pub head_laid : length h₀ ≡ head_length → h₁ ≡ laid version_at strategy_at (bytes_of (strategy_at - version_at) version) h₀
      → h₂ ≡ laid strategy_at persist_at (bytes_of (persist_at - strategy_at) f.strategy) h₁
      → h₃ ≡ laid persist_at threshold_at (bytes_of (threshold_at - persist_at) f.persist) h₂
      → h₄ ≡ laid threshold_at page_at (bytes_of (page_at - threshold_at) f.threshold) h₃
      → h₅ ≡ laid page_at page_end_at (bytes_of (page_end_at - page_at) f.page) h₄
      → h₆ ≡ laid page_end_at eoa_at (bytes_of (eoa_at - page_end_at) f.page_end) h₅
      → h₇ ≡ laid eoa_at head_length (bytes_of (head_length - eoa_at) f.eoa) h₆
      → h₇ ≡ head_of f
  unfolding head_of
  head_laid l e₁ e₂ e₃ e₄ e₅ e₆ e₇ =
      let d₁ = laid_number (laid_none h₀) strategy_at version (omega arith) e₁ in
      let d₂ = laid_number d₁ persist_at f.strategy (omega arith) e₂ in
      let d₃ = laid_number d₂ threshold_at f.persist (omega arith) e₃ in
      let d₄ = laid_number d₃ page_at f.threshold (omega arith) e₄ in
      let d₅ = laid_number d₄ page_end_at f.page (omega arith) e₅ in
      let d₆ = laid_number d₅ eoa_at f.page_end (omega arith) e₆ in
      let d₇ = laid_number d₆ head_length f.eoa (omega arith) e₇ in
      let m : length h₀ ≤ head_length = omega arith in
      let z : drop head_length h₀ ≡ [] = drop_of_length-le h₀ m in
      d₇.whole ∙ rw (z, append-nil)

-- the head, lent first
head_placed : (f : Fields) (b : List ℕ) {h : List ℕ} → h ≡ head_of f → Laid b (head_of f) (put_mid version_at (head_length - version_at) b h) head_length
head_placed f b e =
    laid_next (laid_none b) head_length (head_of f) (length_head f) (omega arith) (laid_back version_at head_length b (omega arith) e)

-- six addresses go to the next place
addresses_laid : {b p c : List ℕ} {from : ℕ} → Laid b p c from → (to : ℕ) (vs : List ℕ) {d : List ℕ} → to - from ≡ addresses_length
    → length vs ≡ types → from ≤ to → d ≡ laid from to (bytes_of_all address_width vs) c → Laid b (p ++ bytes_of_all address_width vs) d to
addresses_laid s to vs w six h e = laid_next s to (bytes_of_all address_width vs) (length_addresses vs six ∙ sym w) h e

-- the message without persistence is its head
message_without : (f : Fields) → f.persist ≡ 0 → message_of f ≡ head_of f
unfolding message_of
message_without f e = rw (count_without f.persist e, tail_none (f.small ++ f.large), append-nil)

message_with : (f : Fields) → length f.small ≡ types → length f.large ≡ types → (f.persist ≡ 0 → ⊥)
    → message_of f ≡ head_of f ++ bytes_of_all address_width f.small ++ bytes_of_all address_width f.large
unfolding message_of
message_with f s l n =
    rw (
      count_with f.persist n,
      tail_all (f.small ++ f.large) (length_both f s l),
      bytes_of_all_append address_width f.small f.large,
    )
    (sym (append_assoc (head_of f) (bytes_of_all address_width f.small) (bytes_of_all address_width f.large)))

-- the parts, lent one after the other
pub head_message : (f : Fields) (b : List ℕ) {h : List ℕ} → f.persist ≡ 0 → h ≡ head_of f
    → put_mid version_at (head_length - version_at) b h ≡ message_of f ++ drop (length_of f) b
head_message f b z e = rw (message_without f z, length_without f z) (head_placed f b e).whole

pub full_message : (f : Fields) (b : List ℕ) {h s l : List ℕ} → length f.small ≡ types → length f.large ≡ types → (f.persist ≡ 0 → ⊥)
    → h ≡ head_of f → s ≡ bytes_of_all address_width f.small → l ≡ bytes_of_all address_width f.large
    → put_mid large_at (full_length - large_at) (put_mid small_at (large_at - small_at) (put_mid version_at (head_length - version_at) b h) s) l
    ≡ message_of f ++ drop (length_of f) b
full_message f b {h} {s} six_small six_large n e₁ e₂ e₃ =
    let b₁ = put_mid version_at (head_length - version_at) b h in
    let b₂ = put_mid small_at (large_at - small_at) b₁ s in
    let d₂ = addresses_laid (head_placed f b e₁) large_at f.small (omega arith) six_small (omega arith) (laid_back small_at large_at b₁ (omega arith) e₂) in
    let d₃ = addresses_laid d₂ full_length f.large (omega arith) six_large (omega arith) (laid_back large_at full_length b₂ (omega arith) e₃) in
    rw (message_with f six_small six_large n, length_with f n) d₃.whole

-- ---- read part by part

pub fields_read : (b vs : List ℕ) {strategy persist threshold page page_end eoa : ℕ} {small large : List ℕ}
    → strategy ≡ value_at strategy_at persist_at b
    → persist ≡ value_at persist_at threshold_at b
    → threshold ≡ value_at threshold_at page_at b
    → page ≡ value_at page_at page_end_at b
    → page_end ≡ value_at page_end_at eoa_at b
    → eoa ≡ value_at eoa_at head_length b
    → small ≡ take types vs
    → large ≡ drop types vs
    → record {
      strategy = strategy;
      persist = persist;
      threshold = threshold;
      page = page;
      page_end = page_end;
      eoa = eoa;
      small = small;
      large = large;
    }
    ≡ head_with vs b
unfolding head_with
fields_read b vs strategy persist threshold page page_end eoa small large =
    λ i.
    record {
      strategy = strategy i;
      persist = persist i;
      threshold = threshold i;
      page = page i;
      page_end = page_end i;
      eoa = eoa i;
      small = small i;
      large = large i;
    }

module _ (f : Fields) (b : List ℕ) (e : f ≡ head_fields b) where
  persist_read : f.persist ≡ value_at persist_at threshold_at b
  unfolding head_with
  persist_read = ap (λ (g : Fields). g.persist) e

  -- without persistence the head has all fields
  pub read_without : f.persist ≡ 0 → f ≡ fields_of b
  read_without z =
      let n : address_count (value_at persist_at threshold_at b) ≡ 0 = count_without _ (sym persist_read ∙ z) in
      e ∙ rw (n, addresses_none head_length b)

  pub read_with : (f.persist ≡ 0 → ⊥) → {small large : List ℕ} → small ≡ addresses_of (part small_at large_at b)
      → large ≡ addresses_of (part large_at full_length b)
      → record {
        strategy = f.strategy;
        persist = f.persist;
        threshold = f.threshold;
        page = f.page;
        page_end = f.page_end;
        eoa = f.eoa;
        small = small;
        large = large;
      }
      ≡ fields_of b
  unfolding head_with
  read_with n s l =
      let k : address_count (value_at persist_at threshold_at b) ≡ most_addresses = count_with _ (λ z. n (persist_read ∙ z)) in
      rw k
      (fields_read b (addresses_at head_length most_addresses b) (λ i. (e i).strategy) persist_read (λ i. (e i).threshold) (λ i. (e i).page)
      (λ i. (e i).page_end) (λ i. (e i).eoa) (s ∙ sym (small_all head_length b)) (l ∙ sym (large_all head_length b)))

-- ---- the head tells the length

module _ (b : List ℕ) where
  pub length_by_head : length_of (head_fields b) ≡ length_of (fields_of b)
  unfolding length_of head_with
  length_by_head = refl

  pub head_without : value_at persist_at threshold_at b ≡ 0 → length_of (head_fields b) ≡ head_length
  unfolding head_with
  head_without e = length_without (head_fields b) e

  pub head_with_addresses : (value_at persist_at threshold_at b ≡ 0 → ⊥) → length_of (head_fields b) ≡ full_length
  unfolding head_with
  head_with_addresses n = length_with (head_fields b) n
