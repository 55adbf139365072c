-- The way to the entry in which an address lies, by halves: what is known of the entries before and behind a range, and how often it is halved.
--
--   Between a n w low high    of n entries those before `low` start at or before the address a, and entry `high`, if there is one, does not
--   whole                     nothing is known of the entries yet: all of them are the range
--   upper_half                where entry m of the range starts at or before the address, and the entries rise, the half behind it is left
--   lower_half                where it does not, the half before it
--   closed                    an empty range tells how many entries start at or before the address
--   halvings m                how often m can be halved until nothing is left: its binary digits
--   at_most                   what is less than 2 ^ k can be halved k times at most
--   fewer                     a half, or less, can be halved fewer times than the whole
--   eleven                    the most entries that a table has room for can be halved eleven times at most
use Prim.Native.Nat.{ℕ, zero, suc, ◌+◌, ◌/◌, ◌^◌, ◌≤◌, ◌<◌}
use mathlib.Core.List.{List}
use mathlib.Core.Path.{◌≡◌}
use native.Mathlib.Nat.{le_refl, pow-suc}
use native.Mathlib.Omega.{arith}
use lib.Arith.{half_le}
use lib.Pow.{pow_pos}
use Rattle.find.specs.Walk.{Rising, Started}
use Rattle.pages.proofs.Numbers.{split}
use Rattle.pieces.specs.Words.{entry_at}
use Rattle.table.specs.Sound.{largest_capacity}

-- ---- a range of entries

pub record Between (a n : ℕ) (w : List ℕ) (low high : ℕ) : Type 0 where
  pub order : low ≤ high
  pub within : high ≤ n
  pub before : (i : ℕ) → i < low → (entry_at w i).address ≤ a
  pub next : high < n → a < (entry_at w high).address

module _ (a n : ℕ) (w : List ℕ) where
  pub whole : Between a n w 0 n
  whole = record { order = omega arith; within = le_refl n; before = λ i l. absurd (omega arith); next = λ l. absurd (omega arith) }

  module _ (low high : ℕ) (b : Between a n w low high) where
    pub upper_half : Rising w n → (m : ℕ) → m < high → (entry_at w m).address ≤ a → Between a n w (m + 1) high
    upper_half up m l start =
        record {
          order = omega arith;
          within = b.within;
          before =
              λ i h.
              split m i (λ le. let e : m ≡ i = omega arith in rw e at start)
              (λ lt. omega (arith, start, up i m lt (omega (arith, b.within))));
          next = b.next;
        }

    pub lower_half : (m : ℕ) → low ≤ m → m < high → a < (entry_at w m).address → Between a n w low m
    lower_half m from l start =
        record { order = from; within = omega (arith, b.within); before = b.before; next = λ h. start }

    pub closed : high ≤ low → Started a n w low
    closed none =
        let e : high ≡ low = omega (arith, b.order) in
        let it : Between a n w low low = rw e at b in
        record { within = it.within; before = it.before; next = it.next }

-- ---- how often a number can be halved

-- the halvings of m, where it is at most f
halvings_in : ℕ → ℕ → ℕ
halvings_in zero m = 0
halvings_in (suc f) zero = 0
halvings_in (suc f) (suc m) = suc (halvings_in f (suc m / 2))

pub halvings : ℕ → ℕ
halvings m = halvings_in m m

below_power : (f m : ℕ) → m ≤ f → m < 2 ^ halvings_in f m
unfolding halvings_in
below_power zero m le = omega (arith, pow_pos (halvings_in zero m))
below_power (suc f) zero le = pow_pos 0
below_power (suc f) (suc m) le =
    omega (arith, below_power f (suc m / 2) (half_le le), pow-suc 2 (halvings_in f (suc m / 2)))

at_most_in : (f m k : ℕ) → m < 2 ^ k → halvings_in f m ≤ k
unfolding halvings_in
at_most_in zero m k lt = omega arith
at_most_in (suc f) zero k lt = omega arith
at_most_in (suc f) (suc m) zero lt = absurd (omega (arith, lt))
at_most_in (suc f) (suc m) (suc k) lt =
    omega (arith, at_most_in f (suc m / 2) k (omega (arith, lt, pow-suc 2 k)))

pub at_most : (m k : ℕ) → m < 2 ^ k → halvings m ≤ k
unfolding halvings
at_most m k lt = at_most_in m m k lt

pub fewer : (m r : ℕ) → 0 < m → r ≤ m / 2 → halvings r < halvings m
unfolding halvings halvings_in
fewer zero r some le = absurd (omega arith)
fewer (suc m) r some le =
    let t = halvings_in m (suc m / 2) in
    let whole : suc m < 2 ^ suc t = below_power (suc m) (suc m) (le_refl (suc m)) in
    omega (arith, at_most r t (omega (arith, whole, pow-suc 2 t)))

pub eleven : (n : ℕ) → n ≤ largest_capacity → halvings n ≤ 11
eleven n le = at_most n 11 (omega arith)
