-- The rules that the fields of a message keep.
--
--   last_strategy, last_persist  the last values of strategy and persist
--   undefined             the undefined address: all ones
--   undefinedb vs         whether the addresses vs are all undefined
--   addressesb p s l      whether the addresses s and l are such as the persist byte p allows
--   legalb f              whether the fields f keep every rule
--
-- Laws are in proofs/LegalLaws.antt.
use Rattle.std.specs.Prelude.{Bool, true, cond, ◌&&◌, List, ℕ, leb, eqb}
use Rattle.std.specs.List.{list_all}
use Rattle.pages.specs.Pages.{page_sizeb}
use Rattle.message_fields.specs.declared.Fields.{Fields}

abbrev pub last_strategy : ℕ
last_strategy = 3

abbrev pub last_persist : ℕ
last_persist = 1

abbrev pub undefined : ℕ
undefined = 18446744073709551615

abbrev pub undefinedb : List ℕ → Bool
undefinedb vs = list_all (λ v. eqb v undefined) vs

unfoldable pub addressesb : ℕ → List ℕ → List ℕ → Bool
addressesb p s l = cond (eqb p 0) (undefinedb s && undefinedb l) true

unfoldable pub legalb : Fields → Bool
legalb f =
    leb f.strategy last_strategy && (leb f.persist last_persist && (page_sizeb f.page && addressesb f.persist f.small f.large))
