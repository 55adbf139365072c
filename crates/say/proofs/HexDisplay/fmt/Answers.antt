-- `Hex` prints its bytes: std writes each in two digits.
use Prim.Native.Nat.{◌<◌}
use mathlib.Core.Bool.{true}
use mathlib.Core.Path.{refl}
use lib.ListN.{get_or}
use Rattle.std.proofs.Common.{rules}
use Rattle.std.proofs.Output.{has_written_append, has_written_of_eq}
use Rattle.say.proofs.ShownLaws.{byte_in_two, bytes_next}
use Rattle.say.proofs.HexDisplay.fmt.Goals as goal

pub loop-byte-preserved : goal.loop-byte-preserved
loop-byte-preserved g c plain =
    let so_far = c.loop-byte.invariant plain in
    let byte = get_or c.args.self.now.0.now c.loop-byte.byte-index 0 in
    let small : byte < 256 = search rules in
    let written = rw (byte_in_two c.in_radix.result c.laid_out.result byte small c.in_radix.ensures c.laid_out.ensures) at c.in_ok-write.ensures.writes in
    has_written_of_eq _ _ _ _ c.write.new.self (bytes_next c.args.self.now.0.now c.loop-byte.byte-index (search rules)) (has_written_append _ _ _ _ _ c.write.new.self so_far (written so_far.plain (refl {a = true})))
