-- The log of document 01's run is judged to agree.
--
--   Each cs             each of the calls cs takes a state, and has room in a record; each_all, of a call among them
--   twelve_each         so it is of the calls of the twelve steps
--   log_of_the_run             the statement
use mathlib.Core.List.Memᴰ
use mathlib.Core.List.{List, [], ◌∷◌}
use mathlib.Core.Path.{sym, ap, ◌∙◌, subst}
use lib.Dec.{lit<, lit≤}
use Rattle.demands.proofs.Run.{the_run}
use Rattle.demands.specs.Calls.{Call, called, ran, Ran, OnSpace, allocating, releasing, extending, shortening}
use Rattle.demands.specs.Run.{twelve_steps, calls_of}
use Rattle.log_judge.specs.Judged.{Agrees}
use Rattle.log_promises.proofs.Recorded.{log_recorded}
use Rattle.log_promises.proofs.RoomLaws.{AllRecordable}
use Rattle.log_promises.specs.Logs.{LogOfTheRun}
use Rattle.log_promises.specs.Recording.{Recordable}

data Each : List Call → Type 0 where
  each_none : Each []
  each_more : {c : Call} {cs : List Call} → OnSpace c → Recordable c → Each cs → Each (c ∷ cs)

each_all : {cs : List Call} → Each cs → AllRecordable cs
each_all (each_more on r h) c (Memᴰ.head e) = subst (λ (x : Call). OnSpace x × Recordable x) (sym e) (on, r)
each_all (each_more on r h) c (Memᴰ.tail i) = each_all h c i
each_all each_none c x3 = elim x3 [ ]

twelve_each : Each (calls_of twelve_steps)
unfolding calls_of
twelve_each =
    each_more allocating (lit< tt, lit< tt)
    (each_more allocating (lit< tt, lit< tt)
    (each_more allocating (lit< tt, lit< tt)
    (each_more allocating (lit< tt, lit< tt)
    (each_more allocating (lit< tt, lit< tt)
    (each_more releasing (lit< tt, lit< tt)
    (each_more allocating (lit< tt, lit< tt)
    (each_more extending (lit< tt, (lit< tt, lit< tt))
    (each_more shortening (lit< tt, (lit< tt, lit< tt))
    (each_more shortening (lit< tt, (lit< tt, lit< tt))
    (each_more releasing (lit< tt, lit< tt)
    (each_more releasing (lit< tt, lit< tt) each_none)))))))))))

pub log_of_the_run : LogOfTheRun
unfolding calls_of ran called
log_of_the_run sp w l =
    let all = each_all twelve_each in
    log_recorded 12 512 5120 (calls_of twelve_steps) sp w l (lit< tt) (lit< tt, lit< tt) (λ c i. (all c i).0) (λ c i. (all c i).1) (lit≤ tt)
    ∙ ap (λ (r : Ran). Agrees 13 r.state.end) (the_run w l).after_twelve
