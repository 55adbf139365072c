-- What the walk for the best place computes with, in numbers.
--
--   no_size                 stands for the size of an entry that does not fit
--   size_if_fits k q z s    the size z of an entry of kind k, if that is the wanted kind q and s bytes are no more; else no_size
--   holding w i z           the best place so far, of a walk that holds entry i of w, of z bytes, or nothing where z is no_size
--   ChooseFits P w          what the walk asks of the entries of w, as those of every sound table have it: a word that is no kind would read as
--                           free large, and an entry of no_size bytes would be taken for one that does not fit
--
-- Laws that tie them to Choose.antt are in proofs/WalkLaws.antt.
use Rattle.std.specs.Prelude.{ℕ, ◌^◌, ◌<◌, cond, ◌&&◌, List, eqb, leb, ltb}
use Rattle.pieces.specs.Pieces.{Kind}
use Rattle.pieces.specs.Words.{kind_at, entry_at, count_in}
use Rattle.choose.specs.Choose.{Chosen}
use Rattle.std.specs.Prelude.{Some, None}

abbrev pub no_size : ℕ
no_size = 2 ^ 63

unfoldable pub size_if_fits : ℕ → ℕ → ℕ → ℕ → ℕ
size_if_fits k q z s = cond (eqb k q && leb s z) z no_size

unfoldable pub holding : List ℕ → ℕ → ℕ → Chosen
holding w i z = cond (ltb z no_size) (Some (i, entry_at w i)) None

pub record ChooseFits (P : ℕ) (w : List ℕ) : Type 0 where
  pub page : 0 < P
  pub kinds : (i : ℕ) → i < count_in w → Kind (kind_at w i)
  pub sizes : (i : ℕ) → i < count_in w → (entry_at w i).size < no_size
