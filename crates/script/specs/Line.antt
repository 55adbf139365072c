-- The lines of a text, and the words of a line.
--
--   run p xs           how many bytes at the front of xs are such as p says
--   every p xs         whether all are
--   blankb b           the byte b stands between words: a space, a tab or a carriage return
--   letterb b          the byte b stands in a word
--   plainb b           the byte b starts no comment
--   insideb b          the byte b stands in a line: it is no line end
--   Ends p xs from r   r is where the run of such bytes ends that starts at `from`
--   WordAt xs word rest   word is the first word of xs, of no bytes where there is none, and rest is what stands behind it
--   starts was is      1 where a word starts: at a letter behind a blank (was: a blank came before, is: this is one)
--   words_in was xs     how many words start in xs
--
-- Laws are in proofs/LineLaws.antt; two texts are compared by `sameb` of pages/specs/Same.antt.
use Rattle.std.specs.Prelude.{◌≡◌, Bool, cond, not, ◌||◌, List, [], ◌∷◌, ℕ, suc, ◌+◌, ◌-◌, ◌≤◌, eqb, length, take, drop}
use Rattle.std.specs.List.{list_all}

unfoldable pub run : (ℕ → Bool) → List ℕ → ℕ
run p [] = 0
run p (x ∷ xs) = cond (p x) (suc (run p xs)) 0

abbrev pub every : (ℕ → Bool) → List ℕ → Bool
every p xs = list_all p xs

abbrev pub blankb : ℕ → Bool
blankb b = eqb b 32 || (eqb b 9 || eqb b 13)

abbrev pub letterb : ℕ → Bool
letterb b = not (blankb b)

abbrev pub plainb : ℕ → Bool
plainb b = not (eqb b 35)

abbrev pub insideb : ℕ → Bool
insideb b = not (eqb b 10)

pub record Ends (p : ℕ → Bool) (xs : List ℕ) (from r : ℕ) : Type 0 where
  pub exact : r ≡ from + run p (drop from xs)
  pub low : from ≤ r
  pub within : r ≤ length xs

pub record WordAt (xs word rest : List ℕ) : Type 0 where
  pub from : ℕ
  pub to : ℕ
  pub starts_at : Ends blankb xs 0 from
  pub ends_at : Ends letterb xs from to
  pub word_is : word ≡ take (to - from) (drop from xs)
  pub rest_is : rest ≡ drop to xs

abbrev pub starts : Bool → Bool → ℕ
starts was is = cond is 0 (cond was 1 0)

unfoldable pub words_in : Bool → List ℕ → ℕ
words_in was [] = 0
words_in was (x ∷ xs) = starts was (blankb x) + words_in (blankb x) xs
