-- Laws of runs of bytes and counted words, in the order of specs/Line.antt: where a run ends; and each step of a walk
-- over a list, or its end.
-- Then what `every` says of one element.
-- Not here: laws of `drop` and `get_or` (lib.Seq), of `&&` (pages/proofs/Numbers.antt).
use Prim.Native.Nat.{ℕ, zero, suc, ◌+◌, ◌<◌, ◌≤◌}
use mathlib.Core.Bool.{Bool, true, false, not}
use mathlib.Core.List.{List, [], ◌∷◌}
use mathlib.Core.Path.{◌≡◌, sym, ap}
use native.Mathlib.Numerals.{add-one}
use native.Mathlib.Omega.{arith}
use lib.ListN.{length, drop, get_or, drop_of_length-le, length-drop}
use lib.Seq.{drop-cons}
use borrow.Author.Tests.{not-true, not-false}
use Rattle.pages.proofs.Numbers.{and_left, and_right}
use Rattle.script.specs.Line.{run, every, blankb, Ends, starts, words_in}

-- ---- runs

-- where the first byte stands at which `p` fails, or the list ends
pub run_is : (p : ℕ → Bool) (xs : List ℕ) (r : ℕ) → r ≤ length xs → ((k : ℕ) → k < r → false ≡ not (p (get_or xs k 0)))
    → (r < length xs → true ≡ not (p (get_or xs r 0))) → r ≡ run p xs
unfolding run
run_is p [] r w b f = omega arith
run_is p (x ∷ xs) zero w b f = rw (not-true (p x) (sym (f (omega arith))))
run_is p (x ∷ xs) (suc r) w b f =
    rw (not-false (p x) (sym (b 0 (omega arith)))) (ap suc (run_is p xs r (omega arith) (λ k h. b (suc k) (omega arith)) (λ h. f (omega arith))))

pub run_ends : (p : ℕ → Bool) (xs : List ℕ) (from r : ℕ) → from ≤ length xs → r ≤ length (drop from xs) → r ≡ run p (drop from xs)
    → Ends p xs from (from + r)
run_ends p xs from r i w e = record { exact = omega (arith, e); low = omega arith; within = omega (arith, length-drop from xs) }

-- ---- words

pub words_next : (was : Bool) (xs : List ℕ) (i : ℕ) → i < length xs
    → words_in was (drop i xs) ≡ starts was (blankb (get_or xs i 0)) + words_in (blankb (get_or xs i 0)) (drop (i + 1) xs)
unfolding words_in
words_next was xs i h = rw (add-one, drop-cons xs i 0 h)

pub words_end : (was : Bool) (xs : List ℕ) (i : ℕ) → length xs ≤ i → words_in was (drop i xs) ≡ 0
unfolding words_in
words_end was xs i h = rw (drop_of_length-le xs h)

pub starts_le : (was is : Bool) → starts was is ≤ 1
starts_le was true = omega arith
starts_le true false = omega arith
starts_le false false = omega arith

-- ---- one of all

pub every_at : (p : ℕ → Bool) (xs : List ℕ) (i : ℕ) → every p xs ≡ true → i < length xs → p (get_or xs i 0) ≡ true
every_at p [] i e h = absurd (omega arith)
every_at p (x ∷ xs) zero e h = and_left (p x) (every p xs) e
every_at p (x ∷ xs) (suc i) e h = every_at p xs i (and_right (p x) (every p xs) e) (omega arith)
