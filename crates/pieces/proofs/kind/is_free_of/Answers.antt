-- `pieces::kind::is_free_of` meets its contract: the kind of a free piece of the class, and of the large class what is no kind.
use Rattle.std.proofs.Common.{◌≡◌, rules, sym, ap, ◌∙◌, eq-eqb}
use mathlib.Core.Bool.{not}
use Rattle.pieces.proofs.KindLaws.{free_of_kind, free_of_not_large, free_of_large}
use Rattle.pieces.specs.Pieces.{kind_of}
use Rattle.pieces.specs.declared.Class.{Class}
use Rattle.pieces.specs.declared.Class.TheVariants.{Large}
use Rattle.pieces.specs.declared.Status.TheVariants.{Free}
use Rattle.pieces.proofs.kind.is_free_of.Goals as goal

pub returns-then-kind-from : goal.returns-then-kind-from
returns-then-kind-from c = eq-eqb _ _ c.if-kind-from.true ∙ sym (free_of_kind _ _ (c.if-kind-from.true ∙ c.from.ensures))

pub returns-then-eq : goal.returns-then-eq
returns-then-eq c =
    let q : c.args.class ≡ Large = search rules in
    let is : kind_of (Free c.args.class) ≡ kind_of (Free Large) = ap (λ (k : Class). kind_of (Free k)) q in
    rw q (ap not c.is_kind.ensures ∙ sym (free_of_large _ (λ e. c.if-kind-from.false (e ∙ sym (c.from.ensures ∙ is)))))

pub returns-else-eq : goal.returns-else-eq
returns-else-eq c =
    let small : c.args.class ≡ Large → ⊥ = search rules in
    c.if-eq.false ∙ sym (free_of_not_large _ _ small (λ e. c.if-kind-from.false (e ∙ sym c.from.ensures)))
