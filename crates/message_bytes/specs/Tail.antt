-- The addresses behind a message's head, for any place where the head ends and any number of addresses there.
--
--   absent n              n addresses that are not there: undefined ones
--   addresses_of bs       the addresses of a part, one for each type
--   addresses_at at k b   all addresses of a message: the k that the bytes b have from the place `at` on, and for the others absent ones
--   tail_of k vs          the first k of the addresses vs in bytes
--
-- Laws are in proofs/TailLaws.antt.
use Rattle.std.specs.Prelude.{List, ◌++◌, ℕ, ◌-◌, take, drop, replicate}
use Rattle.little.specs.Little.{numbers, bytes_of_all}
use Rattle.message_fields.specs.Layout.{types, address_width, most_addresses}
use Rattle.message_fields.specs.Legal.{undefined}

abbrev pub absent : ℕ → List ℕ
absent n = replicate n undefined

abbrev pub addresses_of : List ℕ → List ℕ
addresses_of bs = numbers address_width types bs

unfoldable pub addresses_at : ℕ → ℕ → List ℕ → List ℕ
addresses_at at k b = numbers address_width k (drop at b) ++ absent (most_addresses - k)

unfoldable pub tail_of : ℕ → List ℕ → List ℕ
tail_of k vs = bytes_of_all address_width (take k vs)
