-- Document 01's run with P = 512, M = 5,120, C = 12: what each call is to answer, and how the file ends after it.
--
--   Answer            document 01's column: an address, done, or the number of a refusal
--   answered c sp w   what the call c answers
--   Step, step        the call of a step, its answer, and E after it
--   played cs sp w    the steps of the calls cs, each with the state and the words that the one before it left
--   calls_of ts        the calls of the steps ts
--
--   twelve_steps             document 01's table
--   five_steps               its first five
--   exchanged_steps          the twelve with steps 11 and 12 exchanged
--   left_after_five, left_after_twelve  refusals, state and every word after step 5 and after step 12
--   begun w                  P = 512, M = 5,120, over the lent words w
--   played_over w ts         what the calls of ts answer, and the end after each, from that opening on
--   ran_over w ts            what they leave
--
-- Assumes nothing.
use Rattle.std.specs.Prelude.{ℕ, cond, List, [], ◌∷◌, ◌++◌, eqb, take, replicate}
use Rattle.demands.specs.Calls.{Call, opens, allocates, releases, extends, shortens, called, Ran, ran}
use Rattle.requests.specs.Requests.{metadata_code, raw_code}
use Rattle.space.specs.Opening.{opened}
use Rattle.space.specs.Outcomes.{Outcome}
use Rattle.space.specs.Placing.{allocated}
use Rattle.space.specs.declared.Space.{Space}

-- ---- a table of steps

pub data Answer : Type 0 where
  at : ℕ → Answer
  done : Answer
  refused : ℕ → Answer

abbrev answer_of : Answer → ℕ → Answer
answer_of accepted k = cond (eqb k 0) accepted (refused k)

unfoldable pub answered : Call → Space → List ℕ → Answer
answered (opens P M) sp w = answer_of done (called (opens P M) sp w).refusal
answered (allocates t s) sp w = answer_of (at (allocated sp t s w).address) (called (allocates t s) sp w).refusal
answered (releases a z) sp w = answer_of done (called (releases a z) sp w).refusal
answered (extends a z m) sp w = answer_of done (called (extends a z m) sp w).refusal
answered (shortens a z k) sp w = answer_of done (called (shortens a z k) sp w).refusal

pub record Step : Type 0 where
  pub call : Call
  pub answer : Answer
  pub end : ℕ

abbrev pub step : Call → Answer → ℕ → Step
step c r e = record { call = c; answer = r; end = e }

unfoldable pub played : List Call → Space → List ℕ → List Step
played [] sp w = []
played (c ∷ cs) sp w =
    let o = called c sp w in
    step c (answered c sp w) o.state.end ∷ played cs o.state o.words

unfoldable pub calls_of : List Step → List Call
calls_of [] = []
calls_of (t ∷ ts) = t.call ∷ calls_of ts

-- ---- the run

abbrev metadata : ℕ → Call
metadata s = allocates metadata_code s

abbrev raw : ℕ → Call
raw s = allocates raw_code s

-- document 01's table
abbrev pub twelve_steps : List Step
twelve_steps =
    step (metadata 96) (at 0) 512
    ∷ step (raw 100) (at 512) 1024
    ∷ step (metadata 416) (at 96) 1024
    ∷ step (raw 700) (at 1024) 2048
    ∷ step (metadata 10) (at 2048) 2560
    ∷ step (releases 1024 700) done 2560
    ∷ step (raw 512) (at 1024) 2560
    ∷ step (extends 1024 512 512) done 2560
    ∷ step (shortens 1024 1024 600) (refused 9) 2560
    ∷ step (shortens 1024 1024 300) done 2560
    ∷ step (releases 2048 10) done 2048
    ∷ step (releases 1024 724) done 1024
    ∷ []

abbrev pub five_steps : List Step
five_steps = take 5 twelve_steps

-- steps 11 and 12 exchanged, by way of E = 2,560
abbrev pub exchanged_steps : List Step
exchanged_steps = take 10 twelve_steps ++ (step (releases 1024 724) done 2560 ∷ step (releases 2048 10) done 1024 ∷ [])

-- ---- state and words, after step 5 and after step 12

abbrev first_four : List ℕ
first_four = 0 ∷ 96 ∷ 1 ∷ 96 ∷ 416 ∷ 1 ∷ 512 ∷ 100 ∷ 2 ∷ 612 ∷ 412 ∷ 5 ∷ []

abbrev pub left_after_five : Ran
left_after_five =
    record {
      refusals = 0 ∷ 0 ∷ 0 ∷ 0 ∷ 0 ∷ [];
      state = record { page = 512; limit = 5120; end = 2560; count = 8 };
      words = first_four ++ (1024 ∷ 700 ∷ 3 ∷ 1724 ∷ 324 ∷ 6 ∷ 2048 ∷ 10 ∷ 1 ∷ 2058 ∷ 502 ∷ 4 ∷ replicate 12 0);
    }

abbrev pub left_after_twelve : Ran
left_after_twelve =
    record {
      refusals = 0 ∷ 0 ∷ 0 ∷ 0 ∷ 0 ∷ 0 ∷ 0 ∷ 0 ∷ 9 ∷ 0 ∷ 0 ∷ 0 ∷ [];
      state = record { page = 512; limit = 5120; end = 1024; count = 4 };
      words = first_four ++ replicate 24 0;
    }

-- ---- the calls of a table of steps, begun with an opening over the words w

abbrev pub begun : List ℕ → Outcome
begun w = opened 512 5120 w

abbrev pub played_over : List ℕ → List Step → List Step
played_over w ts = played (calls_of ts) (begun w).state (begun w).words

abbrev pub ran_over : List ℕ → List Step → Ran
ran_over w ts = ran (calls_of ts) (begun w).state (begun w).words
