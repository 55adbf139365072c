-- What a request names: metadata (1) or raw (2) with a size, or a manager (1 metadata, 2 raw, 3 large).
--
--   metadata_code, raw_code, large_code  the codes
--   typeb t               t is the code of a type
--   class_for P t s       the class of a piece of s bytes: large from P bytes on, and else the small one of its type
--   managerb m            m is the code of a manager
--   class_of_manager m    the class of its sections
--
-- Assumes nothing. Laws are in proofs/RequestLaws.antt.
use Rattle.std.specs.Prelude.{Bool, cond, ◌||◌, ℕ, leb, eqb}
use Rattle.pieces.specs.declared.Class.{Class}
use Rattle.pieces.specs.declared.Class.TheVariants.{SmallMetadata, SmallRaw, Large}

abbrev pub metadata_code : ℕ
metadata_code = 1

abbrev pub raw_code : ℕ
raw_code = 2

abbrev pub large_code : ℕ
large_code = 3

abbrev pub typeb : ℕ → Bool
typeb t = eqb t metadata_code || eqb t raw_code

unfoldable pub class_for : ℕ → ℕ → ℕ → Class
class_for P t s = cond (leb P s) Large (cond (eqb t metadata_code) SmallMetadata SmallRaw)

abbrev pub managerb : ℕ → Bool
managerb m = eqb m metadata_code || (eqb m raw_code || eqb m large_code)

unfoldable pub class_of_manager : ℕ → Class
class_of_manager m = cond (eqb m metadata_code) SmallMetadata (cond (eqb m raw_code) SmallRaw Large)
