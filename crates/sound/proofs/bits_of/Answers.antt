-- `sound::bits_of` meets its contract: the bits are the or of all words.
use Rattle.std.proofs.Common.{◌≡◌, fold, bit_or, rules}
use Rattle.sound.proofs.ZeroLaws.{bits_none}
use Rattle.sound.proofs.bits_of.Goals as goal

pub returns : goal.returns
returns c =
    let all : c.fold.result ≡ fold bit_or 0 c.args.words.now = search rules in
    rw all (bits_none c.args.words.now)
