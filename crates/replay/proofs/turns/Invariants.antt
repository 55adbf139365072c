-- `replay::turns` is safe: each turn keeps what is carried.
use Rattle.replay.specs.Reading.{Carried}
use Rattle.replay.proofs.turns.Given as goal

abbrev pub invariant-loop : goal.invariant-loop
invariant-loop l = Carried l.reading
