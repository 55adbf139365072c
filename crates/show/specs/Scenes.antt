-- A scene: the state and the words, and what a call leaves of it.
--
--   scene_entries, scene_words  how many entries there are, and their words
--   part_of len            so many words, or all there are
--   blank_words           all of them 0
--   with_entry w i a z k  the words w with entry i at a, of z bytes and kind k; as they are, if there is no entry i
--   SameScene s t         two scenes have the same words and the same state
--   Left                  what a call leaves: its answer, the state, and the words of the lent table
--   told_as r w, left_as a o  the same of what was told, and of an outcome of `space` whose answer is a where it is accepted
--   accepted_as c n       what the call c answers where it is accepted, with the answer n
--   left_by c sp w        what the call c leaves
--   asked_as len w o      the scene of the words w after a call left o, with its answer
--   asked_of s c           the call c, on the lent part of the scene s; the words behind that stay. asked_in has the lent words counted
--   opened_as P M len     an opening over the first words of a blank scene. opened_in has the words, and those lent counted
--   opened_by_default     the default opening over all of them; opened_over P M w any opening over all words w
--   RefusedAs s c n       the call c is refused with n, and leaves the scene s
--   after_step_five, after_step_twelve  the words of document 01's run
use Rattle.std.specs.Prelude.{◌≡◌, cond, List, [], ◌∷◌, ◌++◌, ℕ, ◌*◌, ltb, take, drop, replicate}
use Rattle.call.specs.Answered.{answered}
use Rattle.call.specs.declared.Call.{Call}
use Rattle.call.specs.declared.Call.TheVariants.{Allocate, Release, Extend, Shorten}
use Rattle.pieces.specs.Pieces.{piece, status_of}
use Rattle.pieces.specs.Words.{entry_words, laid}
use Rattle.space.specs.Opening.{opened, default_page, default_limit}
use Rattle.space.specs.Outcomes.{Outcome}
use Rattle.space.specs.declared.Space.{Space}
use Rattle.show.specs.Answers.{of_number}
use Rattle.show.specs.declared.answer.Answer.{Answer}
use Rattle.show.specs.declared.answer.Answer.TheVariants.{At, Done, Refused}
use Rattle.show.specs.declared.scene.Asked.{Asked}
use Rattle.show.specs.declared.scene.Scene.{Scene}
use Rattle.show.specs.declared.scene.Told.{Told}

abbrev pub scene_entries : ℕ
scene_entries = 32

abbrev pub scene_words : ℕ
scene_words = scene_entries * entry_words

abbrev pub part_of : ℕ → ℕ
part_of len = cond (ltb scene_words len) scene_words len

abbrev pub blank_words : List ℕ
blank_words = replicate scene_words 0

unfoldable pub with_entry : List ℕ → ℕ → ℕ → ℕ → ℕ → List ℕ
with_entry w i a z k = cond (ltb i scene_entries) (laid w i (piece a z (status_of k) ∷ [])) w

abbrev pub SameScene : Scene → Scene → Type 0
SameScene s t = (s.words ≡ t.words) × (s.space ≡ t.space)

-- ---- what a call leaves

pub record Left : Type 0 where
  pub answer : Answer
  pub state : Space
  pub words : List ℕ

abbrev pub told_as : Told → List ℕ → Left
told_as r w = record { answer = r.answer; state = r.space; words = w }

abbrev pub left_as : Answer → Outcome → Left
left_as accepted o = record { answer = of_number o.refusal accepted; state = o.state; words = o.words }

abbrev pub accepted_as : Call → ℕ → Answer
accepted_as (Allocate t s) a = At a
accepted_as (Release a z) n = Done
accepted_as (Extend a z m) n = Done
accepted_as (Shorten a z k) n = Done

unfoldable pub left_by : Call → Space → List ℕ → Left
left_by c sp w = let a = answered c sp w in left_as (accepted_as c a.answer) a.outcome

-- with these words, and with what a call leaves beside them
abbrev pub asked_as : ℕ → List ℕ → Left → Asked
asked_as len w o = record { scene = record { space = o.state; words = w; len = len }; answer = o.answer }

-- the lent part is the first n words
unfoldable pub asked_in : Scene → Call → ℕ → Asked
asked_in s c n = let o = left_by c s.space (take n s.words) in asked_as s.len (o.words ++ drop n s.words) o

abbrev pub asked_of : Scene → Call → Asked
asked_of s c = asked_in s c (part_of s.len)

abbrev pub RefusedAs : Scene → Call → ℕ → Type 0
RefusedAs s c n = ((asked_of s c).answer ≡ Refused n) × SameScene s (asked_of s c).scene

unfoldable pub opened_in : ℕ → ℕ → ℕ → List ℕ → ℕ → Asked
opened_in P M len w n = let o = left_as Done (opened P M (take n w)) in asked_as len (o.words ++ drop n w) o

abbrev pub opened_as : ℕ → ℕ → ℕ → Asked
opened_as P M len = opened_in P M len blank_words (part_of len)

unfoldable pub opened_over : ℕ → ℕ → List ℕ → Asked
opened_over P M w = let o = left_as Done (opened P M w) in asked_as scene_words o.words o

abbrev pub opened_by_default : Asked
opened_by_default = opened_over default_page default_limit blank_words

-- ---- document 01's run

abbrev pub after_step_twelve : List ℕ
after_step_twelve = with_entry (with_entry (with_entry (with_entry blank_words 0 0 96 1) 1 96 416 1) 2 512 100 2) 3 612 412 5

abbrev pub after_step_five : List ℕ
after_step_five =
    with_entry (with_entry (with_entry (with_entry after_step_twelve 4 1024 700 3) 5 1724 324 6) 6 2048 10 1) 7 2058 502 4
