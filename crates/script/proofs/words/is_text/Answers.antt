-- `script::words::is_text` meets its contract: `==` on slices is the test of the definition.
use mathlib.Core.Path.{◌∙◌}
use Rattle.pages.proofs.SameLaws.{same_pointwise}
use Rattle.script.proofs.words.is_text.Goals as goal

pub returns : goal.returns
returns c = c.eq.ensures ∙ same_pointwise _ _
