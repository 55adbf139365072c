-- `bench::named::names` is safe and ends: in a table that was tested to be sound, names can be found.
use Rattle.find.proofs.WalkLaws.{find_fits}
use Rattle.space.proofs.OutcomeLaws.{tested}
use Rattle.bench.proofs.named.names.Goals as goal

pub entries-requires : goal.entries-requires
entries-requires c = tested _ c.args.table.now c.is_sound.ensures c.if-not-is_sound.false

pub names_on-requires : goal.names_on-requires
names_on-requires c = find_fits (tested _ c.args.table.now c.is_sound.ensures c.if-not-is_sound.false) c.entries.ensures.words
