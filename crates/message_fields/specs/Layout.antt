-- Where each field of a File Space Info message stands: the layout of the HDF5 File Format Specification as document 01 gives it, with offsets
-- and lengths of 8 bytes. A field starts at its place and ends where the next one starts, so these numbers are its width too.
--
--   version_at .. eoa_at   the place of each field of the head, in the order of the message
--   head_length            where the head ends: the place behind the EOA
--   small_at, large_at     the places of the addresses, where they are there: of the small managers, of the large ones
--   full_length            the place behind the last of them
--   types, address_width   how many addresses the small and the large managers have each, and the bytes of one
--   addresses_length       the bytes of six addresses
--   most_addresses         how many addresses there are in all
use Rattle.std.specs.Prelude.{ℕ, ◌+◌, ◌*◌}

abbrev pub version_at : ℕ
version_at = 0

abbrev pub strategy_at : ℕ
strategy_at = 1

abbrev pub persist_at : ℕ
persist_at = 2

abbrev pub threshold_at : ℕ
threshold_at = 3

abbrev pub page_at : ℕ
page_at = 11

abbrev pub page_end_at : ℕ
page_end_at = 19

abbrev pub eoa_at : ℕ
eoa_at = 21

abbrev pub head_length : ℕ
head_length = 29

abbrev pub small_at : ℕ
small_at = head_length

abbrev pub large_at : ℕ
large_at = 77

abbrev pub full_length : ℕ
full_length = 125

abbrev pub types : ℕ
types = 6

abbrev pub address_width : ℕ
address_width = 8

abbrev pub addresses_length : ℕ
addresses_length = types * address_width

abbrev pub most_addresses : ℕ
most_addresses = types + types
