-- The one proof of all that the customer signs on.
--
--   signed      every statement of specs/Signed.antt
--
-- Assumes nothing.
use Rattle.area_promises.proofs.Areas.{area_bytes_lem, area_calls_lem, area_refused, area_done, area_runs, area_any_order, one_area}
use Rattle.demands.proofs.AnyOrder.{any_order, two_orders}
use Rattle.demands.proofs.Edits.{edits, new_bytes}
use Rattle.demands.proofs.Exactly.{exactly}
use Rattle.demands.proofs.Keeps.{keeps, runs}
use Rattle.demands.proofs.Listings.{listings}
use Rattle.demands.proofs.Names.{one_of_five}
use Rattle.demands.proofs.OneResult.{one_result}
use Rattle.demands.proofs.Placing.{placing}
use Rattle.demands.proofs.Refusals.{refusals}
use Rattle.demands.proofs.Run.{the_run}
use Rattle.demands_with.proofs.Summaries.{refusals_with, exactly_with, keeps_with, runs_with, any_order_with, two_orders_with, one_result_with}
use Rattle.demands_with.proofs.Tied.{tied}
use Rattle.signed.specs.Signed.{Signed}
use Rattle.literal.proofs.Statements.{allocating, releasing, extending, shortening}
use Rattle.log_check.proofs.CheckLaws.{log_sums}
use Rattle.log_promises.proofs.Blocks.{log_blocks_lem}
use Rattle.log_promises.proofs.Cut.{log_cut}
use Rattle.log_promises.proofs.Judging.{log_damaged, log_differs, log_agrees}
use Rattle.log_promises.proofs.Openings.{log_refused_open}
use Rattle.log_promises.proofs.Recorded.{log_recorded}
use Rattle.log_promises.proofs.TheLog.{log_of_the_run}
use Rattle.message_promises.proofs.Promised.{lengths, read_exact, rest_exact, write_exact, acceptance, round_trip, one_meaning}
use Rattle.table.proofs.Theorems.{determined, one_table}
use Rattle.totals.proofs.Described.{summary_right, one_summary}

pub signed : Signed
signed =
    record {
      refusals = refusals;
      keeps = keeps;
      runs = runs;
      edits = edits;
      new_bytes = new_bytes;
      placing = placing;
      one_of_five = one_of_five;
      exactly = exactly;
      listings = listings;
      the_run = the_run;
      allocating = allocating;
      releasing = releasing;
      extending = extending;
      shortening = shortening;
      lengths = lengths;
      read_exact = read_exact;
      rest_exact = rest_exact;
      write_exact = write_exact;
      acceptance = acceptance;
      round_trip = round_trip;
      one_meaning = one_meaning;
      any_order = any_order;
      two_orders = two_orders;
      determined = determined;
      one_table = one_table;
      one_result = one_result;
      summary_right = summary_right;
      one_summary = one_summary;
      tied = tied;
      refusals_with = refusals_with;
      exactly_with = exactly_with;
      keeps_with = keeps_with;
      runs_with = runs_with;
      any_order_with = any_order_with;
      two_orders_with = two_orders_with;
      one_result_with = one_result_with;
      area_bytes = area_bytes_lem;
      area_calls = area_calls_lem;
      area_refused = area_refused;
      area_done = area_done;
      area_runs = area_runs;
      area_any_order = area_any_order;
      one_area = one_area;
      log_damaged = log_damaged;
      log_differs = log_differs;
      log_agrees = log_agrees;
      log_refused_open = log_refused_open;
      log_sums = log_sums;
      log_blocks = log_blocks_lem;
      log_cut = log_cut;
      log_recorded = log_recorded;
      log_of_the_run = log_of_the_run;
    }
