-- `space::Space::resize_found` meets its contract: the piece is to get its new size, or the refusal is that of one that keeps its own.
use mathlib.Core.Path.{sym, ◌∙◌}
use Rattle.space.proofs.GiveLaws.{new_size_fits, kept_size}
use Rattle.std.proofs.lemmas.Result.{err_from_is_err_and}
use Rattle.space.proofs.Space.resize_found.Goals as goal

pub returns-in_err-size : goal.returns-in_err-size
returns-in_err-size c =
    let p = err_from_is_err_and c.from_residual.result c.from_residual.ensures.1 in
    rw (p.1, p.2) (kept_size _ _ _ _ c.requires _ _ (sym c.in_err-size.was ∙ c.new_size.ensures))

pub resize_to-requires : goal.resize_to-requires
resize_to-requires c =
    let f = c.requires in
    (f, new_size_fits _ _ _ _ f _ _ _ (sym c.in_ok-size.was ∙ c.new_size.ensures))
