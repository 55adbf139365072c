use Rattle.std.proofs.Common.{◌≡◌, ◌++◌, ◌-◌, ◌%◌, ◌<◌, length, drop, sym, ap, ◌∙◌, arith, rules}
use Rattle.std.proofs.lemmas.Grind.{common_steps}
use Rattle.std.specs.Slice.Iter.{chunks_exact_rest}
use Rattle.sound.proofs.ZeroLaws.{zeros_on, zeros_stop, blocks_none, blocks_more, blocks_end}
use Rattle.table.specs.Local.{zerosb}
use Rattle.sound.proofs.zeros_from.Goals as goal

pub loop-block-init : goal.loop-block-init
loop-block-init c =
    let all : chunks_exact_rest c.into_iter-block-iterator.result ≡ drop c.args.from c.args.table.now = grind (arith, common_steps) in
    (search rules, tt, search rules, rw all (blocks_none 144 _))

pub returns-then-bits_of-ne0 : goal.returns-then-bits_of-ne0
returns-then-bits_of-ne0 c =
    let l = c.loop-block in
    let here : chunks_exact_rest l.block-iterator ≡ c.in-Some.block.now ++ chunks_exact_rest c.next.new.self = search rules in
    sym (zeros_stop _ _ _ c.bits_of.ensures c.if-bits_of-ne0.true) ∙ (sym (ap zerosb here) ∙ l.invariant.3.same)

pub loop-block-preserved : goal.loop-block-preserved
loop-block-preserved c =
    let l = c.loop-block in
    let here : chunks_exact_rest l.block-iterator ≡ c.in-Some.block.now ++ chunks_exact_rest c.next.new.self = search rules in
    let size : length c.in-Some.block.now ≡ 144 = search rules in
    let more = ap zerosb here ∙ zeros_on _ _ _ c.bits_of.ensures c.if-bits_of-ne0.false in
    (search rules, tt, search rules, blocks_more 144 _ _ _ _ l.invariant.3 here size more)

pub returns : goal.returns
returns c =
    let w = drop c.args.from c.args.table.now in
    let l = c.loop-block in
    let few : length (chunks_exact_rest l.block-iterator) < 144 = search rules in
    let rest : c.remainder-rest.result.now ≡ drop (length w - length w % 144) w = grind (arith, common_steps) in
    c.bits_of-2.ensures ∙ (ap zerosb rest ∙ blocks_end w _ l.invariant.3 few)
