-- `little::put` meets its contract: the bytes written so far, with those of what is left, are always the bytes of the value.
use Rattle.std.proofs.Common.{◌≡◌, ◌-◌, ◌++◌, length, take}
use Rattle.little.specs.Little.{bytes_of}
use Rattle.little.proofs.put.Given as goal

abbrev pub invariant-loop-byte : goal.invariant-loop-byte
invariant-loop-byte l =
    take l.byte-index l.out ++ bytes_of (length l.initial.out - l.byte-index) l.rest ≡ bytes_of (length l.initial.out) l.value
