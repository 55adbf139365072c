-- One answer for all calls.
--
--   of_number n a   what a call answers by document 01's number n: a where it is accepted, else the refusal
--   sameb r t       whether two answers are of one case, with one number
use Rattle.std.specs.Prelude.{Bool, true, false, cond, ℕ, eqb}
use Rattle.show.specs.declared.answer.Answer.{Answer}
use Rattle.show.specs.declared.answer.Answer.TheVariants.{At, Sections, Done, Refused}

abbrev pub of_number : ℕ → Answer → Answer
of_number n a = cond (eqb n 0) a (Refused n)

abbrev pub sameb : Answer → Answer → Bool
sameb (At a) (At b) = eqb a b
sameb (At a) (Sections k) = false
sameb (At a) Done = false
sameb (At a) (Refused k) = false
sameb (Sections k) (At a) = false
sameb (Sections k) (Sections l) = eqb k l
sameb (Sections k) Done = false
sameb (Sections k) (Refused l) = false
sameb Done (At a) = false
sameb Done (Sections k) = false
sameb Done Done = true
sameb Done (Refused k) = false
sameb (Refused k) (At a) = false
sameb (Refused k) (Sections l) = false
sameb (Refused k) Done = false
sameb (Refused k) (Refused l) = eqb k l
