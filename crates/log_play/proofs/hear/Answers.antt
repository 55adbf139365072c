-- `log_play::hear` meets its contract: an open is one, and any other record is its call on the file's own words.
use Prim.Native.Nat.{◌≤◌}
use mathlib.Core.List.{◌++◌}
use mathlib.Core.Path.{◌≡◌, ◌∙◌}
use lib.ListN.{length, drop}
use borrow.Author.Rules.{rules}
use Rattle.log_play.specs.Lent.{file_in}
use Rattle.log_play.proofs.PlayLaws.{heard_open, front_long, call_heard}
use Rattle.log_play.proofs.hear.Goals as goal

pub returns-then-said-eq-OPEN-clause-is : goal.returns-then-said-eq-OPEN-clause-is
returns-then-said-eq-OPEN-clause-is c =
    let a = c.args in
    c.open_anew.ensures.is ∙ heard_open a.said (file_in a.file a.table.now) c.if-said-eq-OPEN.true

pub returns-clause-is : goal.returns-clause-is
returns-clause-is c =
    let a = c.args in
    let told = c.tell-told in
    let words = told.new.table in
    let there : a.file.used ≤ length a.table.now = search rules in
    let same : length (words ++ drop a.file.used a.table.now) ≡ length a.table.now = search rules in
    call_heard a.said a.file a.table.now told.result words _ c.if-said-eq-OPEN.false c.call_of.ensures
    (front_long words a.table.now a.file.used there same) told.ensures
