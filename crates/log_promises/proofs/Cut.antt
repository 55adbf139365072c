-- Logs as bytes: how they are cut into blocks.
--
--   blocks_append    bytes of whole blocks, and bytes behind them
--   log_cut          the statement
use Prim.Native.Nat.{ℕ, zero, suc, ◌*◌, ◌≤◌, ◌<◌}
use mathlib.Core.List.{List, [], ◌∷◌, ◌++◌, Memᴰ}
use mathlib.Core.Path.{◌≡◌, refl, ◌∙◌}
use native.Mathlib.Omega.{arith}
use lib.ListN.{length, drop, length-append, length-drop}
use lib.Seq.{take-append-le, drop-append-le, take_at, drop_at}
use Rattle.log_check.specs.Check.{block_bytes}
use Rattle.log_judge.proofs.CutLaws.{blocks_none, blocks_next}
use Rattle.log_judge.specs.Judged.{blocks_of}
use Rattle.log_promises.specs.Logs.{joined, LogCut}

blocks_append : (n : ℕ) (x y : List ℕ) → length x ≡ n * block_bytes → blocks_of (x ++ y) ≡ blocks_of x ++ blocks_of y
blocks_append zero [] y l = rw blocks_none refl
blocks_append zero (v ∷ x) y l = absurd (omega arith)
blocks_append (suc n) x y l =
    let long : block_bytes ≤ length x = omega arith in
    let some : 0 < length x = omega arith in
    let more : 0 < length (x ++ y) = rw (length-append x y) (omega arith) in
    let rest : length (drop block_bytes x) ≡ n * block_bytes = rw (length-drop block_bytes x) (omega arith) in
    blocks_next (x ++ y) more
    ∙ (rw (take-append-le block_bytes x y long, drop-append-le block_bytes x y long, blocks_append n (drop block_bytes x) y rest, blocks_next x some) refl)

whole : (bs : List (List ℕ)) → ((b : List ℕ) → Memᴰ b bs → length b ≡ block_bytes) → blocks_of (joined bs) ≡ bs
unfolding joined
whole [] h = blocks_none
whole (b ∷ bs) h =
    let l = h b (Memᴰ.head refl) in
    let one : length b ≡ 1 * block_bytes = l ∙ refl in
    let some : 0 < length (b ++ joined bs) = rw (length-append b (joined bs)) (omega arith) in
    blocks_next (b ++ joined bs) some
    ∙ rw (take_at b (joined bs) block_bytes l, drop_at b (joined bs) block_bytes l, whole bs (λ d i. h d (Memᴰ.tail i))) refl

pub log_cut : LogCut
log_cut = record { parts = blocks_append; blocks = whole }
