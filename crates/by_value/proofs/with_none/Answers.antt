-- `by_value::with_none` meets its contract: the two answers of an opening.
use mathlib.Core.Path.{sym, ap, ◌∙◌}
use Rattle.by_value.proofs.WithLaws.{unless_accepted, unless_refused_lem}
use Rattle.refusals.specs.AnswerNumbers.{open_number}
use Rattle.refusals.specs.NeverZero.{open_some}
use Rattle.by_value.proofs.with_none.Goals as goal

pub returns-in-Ok-clause-summary : goal.returns-in-Ok-clause-summary
returns-in-Ok-clause-summary c given = c.no_totals.ensures ∙ sym (unless_accepted _ given (ap open_number c.in-Ok.is))

pub returns-in-Err-clause-summary : goal.returns-in-Err-clause-summary
returns-in-Err-clause-summary c given = sym (unless_refused_lem _ given (λ z. open_some _ (sym (ap open_number c.in-Err.is) ∙ z)))
