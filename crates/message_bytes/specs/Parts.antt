-- The fields of a message in bytes: its head, and behind it the addresses that persist asks for.
--
--   head_with vs b        the fields up to the EOA as the bytes b have them, with the addresses vs: the small managers', then the large ones'
--   head_fields b         the same with every address absent
--   fields_of b            all fields as the bytes b have them, whether legal or not
--   head_of f, message_of f the bytes of f up to the addresses, and all of them
--
-- Laws are in proofs/PartLaws.antt.
use Rattle.std.specs.Prelude.{List, ◌++◌, ℕ, ◌-◌, take, drop}
use Rattle.little.specs.Little.{bytes_of, value_at}
use Rattle.message_bytes.specs.Tail.{absent, addresses_at, tail_of}
use Rattle.message_fields.specs.declared.Fields.{Fields}
use Rattle.message_fields.specs.Fields.{version, address_count}
use Rattle.message_fields.specs.Layout.{version_at, strategy_at, persist_at, threshold_at, page_at, page_end_at, eoa_at, head_length}
use Rattle.message_fields.specs.Layout.{types, most_addresses}

unfoldable pub head_with : List ℕ → List ℕ → Fields
head_with vs b =
    record {
      strategy = value_at strategy_at persist_at b;
      persist = value_at persist_at threshold_at b;
      threshold = value_at threshold_at page_at b;
      page = value_at page_at page_end_at b;
      page_end = value_at page_end_at eoa_at b;
      eoa = value_at eoa_at head_length b;
      small = take types vs;
      large = drop types vs;
    }

abbrev pub head_fields : List ℕ → Fields
head_fields b = head_with (absent most_addresses) b

abbrev pub fields_of : List ℕ → Fields
fields_of b = head_with (addresses_at head_length (address_count (value_at persist_at threshold_at b)) b) b

unfoldable pub head_of : Fields → List ℕ
head_of f =
    bytes_of (strategy_at - version_at) version
    ++ bytes_of (persist_at - strategy_at) f.strategy
    ++ bytes_of (threshold_at - persist_at) f.persist
    ++ bytes_of (page_at - threshold_at) f.threshold
    ++ bytes_of (page_end_at - page_at) f.page
    ++ bytes_of (eoa_at - page_end_at) f.page_end
    ++ bytes_of (head_length - eoa_at) f.eoa

unfoldable pub message_of : Fields → List ℕ
message_of f = head_of f ++ tail_of (address_count f.persist) (f.small ++ f.large)
