-- The steps of `little::get`: a byte more is passed at a turn, and the number of those passed then fits.
use Rattle.std.proofs.Common.{◌≡◌, ◌+◌, ◌*◌, ◌^◌, ◌<◌, [], ◌∷◌, ◌++◌, refl, sym, ◌∙◌, append-nil, arith, rules}
use Rattle.little.proofs.LittleLaws.{passed_more, passed_fits}
use Rattle.little.specs.Little.{byte_values, little}
use Rattle.little.proofs.get.Goals as goal

more : (c : goal.After-from) → c.args.bytes.now ≡ c.next.new.self.iter.rest.now ++ c.in-Some.byte.now ∷ c.loop-byte.invariant.0
more c = passed_more _ _ _ _ _ c.loop-byte.invariant.1.0 c.in-Some.ensures.steps

fits : (c : goal.After-from) → c.from.result + byte_values * c.loop-byte.value < 2 ^ 64
unfolding little
fits c =
    let passed = c.in-Some.byte.now ∷ c.loop-byte.invariant.0 in
    rw (c.from.ensures, c.loop-byte.invariant.1.1)
    (passed_fits c.args.bytes.now c.next.new.self.iter.rest.now passed (λ i. (c.type_inv.bytes i).fits) c.requires (more c))

pub loop-byte-init : goal.loop-byte-init
unfolding little
loop-byte-init c =
    let start : c.args.bytes.now ≡ c.into_iter-byte-iterator.result.iter.rest.now = search rules in
    ([], (start ∙ sym (append-nil _), refl))

pub overflow_mul-value : goal.overflow_mul-value
overflow_mul-value c = omega (arith, fits c)

pub overflow_add-value : goal.overflow_add-value
overflow_add-value c = omega (arith, fits c)

pub loop-byte-preserved : goal.loop-byte-preserved
unfolding little
loop-byte-preserved c = (c.in-Some.byte.now ∷ c.loop-byte.invariant.0, (more c, rw (c.from.ensures, c.loop-byte.invariant.1.1)))
