-- What the tests that are written `==` mean.
--
--   equal_is_same       the derived `==` of two answers is `sameb`
--   same_is_equal       and it holds exactly where they are equal
--   agreed_first, agreed_second, agreed_next      the index of the first word that differs, word by word
use Prim.Native.Nat.{ℕ, ◌+◌}
use mathlib.Core.Bool.{true, cond, false≢true}
use mathlib.Core.List.{List, [], ◌∷◌}
use mathlib.Core.Path.{◌≡◌, refl, ap}
use lib.Dec.{eqb}
use borrow.Author.Tests.{eqb-true, eq-eqb}
use Rattle.std.proofs.Math.Nat.{add_comm}
use Rattle.show.specs.Answers.{sameb}
use Rattle.show.specs.Claims.{Tells}
use Rattle.show.specs.Words.{agreed}
use Rattle.show.specs.contracts.answer.AnswerPartialEq.TheImpl as derived
use Rattle.show.specs.declared.answer.Answer.{Answer}
use Rattle.show.specs.declared.answer.Answer.TheVariants.{At, Sections, Done, Refused}

pub equal_is_same : (a t : Answer) → (derived.ghosts).eq a t ≡ sameb a t
equal_is_same (At n) (At k) = refl
equal_is_same (At n) (Sections k) = refl
equal_is_same (At n) Done = refl
equal_is_same (At n) (Refused k) = refl
equal_is_same (Sections n) (At k) = refl
equal_is_same (Sections n) (Sections k) = refl
equal_is_same (Sections n) Done = refl
equal_is_same (Sections n) (Refused k) = refl
equal_is_same Done (At k) = refl
equal_is_same Done (Sections k) = refl
equal_is_same Done Done = refl
equal_is_same Done (Refused k) = refl
equal_is_same (Refused n) (At k) = refl
equal_is_same (Refused n) (Sections k) = refl
equal_is_same (Refused n) Done = refl
equal_is_same (Refused n) (Refused k) = refl

pub same_is_equal : (a t : Answer) → Tells (sameb a t) (a ≡ t)
same_is_equal a t = (equal a t, λ e. rw (← e) (itself a))
  where
    itself : (a : Answer) → sameb a a ≡ true
    itself (At n) = eq-eqb n n refl
    itself (Sections n) = eq-eqb n n refl
    itself Done = refl
    itself (Refused n) = eq-eqb n n refl

    equal : (a t : Answer) → sameb a t ≡ true → a ≡ t
    equal (At n) (At k) e = ap At (eqb-true n k e)
    equal (At n) (Sections k) e = absurd (false≢true e)
    equal (At n) Done e = absurd (false≢true e)
    equal (At n) (Refused k) e = absurd (false≢true e)
    equal (Sections n) (At k) e = absurd (false≢true e)
    equal (Sections n) (Sections k) e = ap Sections (eqb-true n k e)
    equal (Sections n) Done e = absurd (false≢true e)
    equal (Sections n) (Refused k) e = absurd (false≢true e)
    equal Done (At k) e = absurd (false≢true e)
    equal Done (Sections k) e = absurd (false≢true e)
    equal Done Done e = refl
    equal Done (Refused k) e = absurd (false≢true e)
    equal (Refused n) (At k) e = absurd (false≢true e)
    equal (Refused n) (Sections k) e = absurd (false≢true e)
    equal (Refused n) Done e = absurd (false≢true e)
    equal (Refused n) (Refused k) e = ap Refused (eqb-true n k e)

pub agreed_first : (w : List ℕ) → agreed [] w ≡ 0
agreed_first w = refl

pub agreed_second : (x : ℕ) (v : List ℕ) → agreed (x ∷ v) [] ≡ 0
agreed_second x v = refl

pub agreed_next : (x y : ℕ) (v w : List ℕ) → agreed (x ∷ v) (y ∷ w) ≡ cond (eqb x y) (agreed v w + 1) 0
agreed_next x y v w = ap (λ (n : ℕ). cond (eqb x y) n 0) (add_comm 1 (agreed v w))
