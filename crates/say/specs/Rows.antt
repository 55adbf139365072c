-- What drawing a file asks.
--
--   Rows page end           a page has a byte, and nothing overflows when a file is drawn page by page
--
use Rattle.std.specs.Prelude.{ℕ, ◌<◌, ◌≤◌}
use Rattle.pages.specs.Pages.{largest_page}
use Rattle.table.specs.Sound.{largest_limit}

pub record Rows (page end : ℕ) : Type 0 where
  pub some : 0 < page
  pub page_most : page ≤ largest_page
  pub end_most : end ≤ largest_limit
