-- `area_bytes::read` meets its contract: each number of the state is the word at its place, and the table gets the words behind them.
use Prim.Native.Nat.{ℕ, ◌-◌}
use mathlib.Core.Path.{◌≡◌, ap, ◌∙◌}
use native.Mathlib.Omega.{arith}
use lib.ListN.{length, drop, length-drop}
use lib.Seq.{take_all}
use Rattle.area_bytes.specs.Area.{table_at, table_words}
use Rattle.little.specs.Little.{word_bytes, numbers}
use borrow.Author.Rules.{rules}
use Rattle.area_bytes.proofs.read.Goals as goal

pub returns : goal.returns
returns c =
    let b = c.args.area.now in
    let many : length c.args.table.now ≡ table_words (length b) = omega (arith, c.requires) in (
      λ i. record {
        page = c.get_word.ensures i;
        limit = c.get_word-2.ensures i;
        end = c.get_word-3.ensures i;
        count = c.get_word-4.ensures i;
      },
      c.get_words.ensures ∙ (ap (numbers word_bytes (length c.args.table.now)) (take_all (length b - table_at) (drop table_at b) (simp length-drop (search rules)))
          ∙ ap (λ (n : ℕ). numbers word_bytes n (drop table_at b)) many),
    )
