-- `by_value::carry_out` meets its contract: what went is counted before the change is written, what came after it, and the rest is the law of a
-- change.
use Rattle.by_value.proofs.ChangeLaws.{went_countable, next_sound, came_countable, replaces}
use Rattle.by_value.proofs.carry_out.Goals as goal

pub work_out-was-requires : goal.work_out-was-requires
work_out-was-requires c = went_countable c.requires c.words_of.ensures

pub work_out-is-requires : goal.work_out-is-requires
work_out-is-requires c = came_countable c.requires c.carry_out-next.ensures c.words_of-2.ensures

pub entries-requires : goal.entries-requires
entries-requires c = next_sound c.requires c.carry_out-next.ensures

pub replaced-requires : goal.replaced-requires
replaced-requires c =
    replaces c.requires c.carry_out-next.ensures c.words_of.ensures c.work_out-was.ensures c.words_of-2.ensures c.work_out-is.ensures
    c.entries.ensures.words c.entries.ensures.entries
