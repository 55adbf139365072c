-- What the moves of words cite: move_block, the words of a block, which are loaded before one is stored.
--
-- Not here: the moves themselves, which are `paste` of lib.Seq. Assumes nothing.
use Rattle.std.specs.Prelude.{ℕ}

abbrev pub move_block : ℕ
move_block = 4
