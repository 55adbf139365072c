-- All that the customer signs on, as one record: each field is a statement, and proofs/Signed.antt proves the record. So a statement without a
-- proof does not pass the check; docs/PROMISES.md has for each field an edit that its proof refuses.
--
-- The statements: those on the calls in demands/specs/Demands.antt, those on the calls with a summary in demands_with/specs/Summaries.antt, those on
-- tables in table/specs/Theorems.antt, on what a summary is in totals/specs/Described.antt, document 01's rules read literally in
-- literal/specs/Statements.antt, those on the message in message_promises/specs/Promises.antt, those on the calls over an area of bytes in
-- area_promises/specs/Areas.antt, those on a recorder's log in log_promises/specs/Logs.antt and log_check/specs/Check.antt.
--
-- Assumes nothing.
use Rattle.area_promises.specs.Areas.{AreaBytes, AreaCalls, AreaRefused, AreaDone, AreaRuns, AreaAnyOrder, OneArea}
use Rattle.demands.specs.Demands.{Refusals, Keeps, Edits, NewBytes, Placing, OneOfFive, Exactly, Listings, Runs, AnyOrder, TwoOrders, TheRun, OneResult}
use Rattle.demands_with.specs.Summaries.{Tied, RefusalsWith, ExactlyWith, KeepsWith, RunsWith, AnyOrderWith, TwoOrdersWith, OneResultWith}
use Rattle.literal.specs.Statements.{Allocating, Releasing, Extending, Shortening}
use Rattle.log_check.specs.Check.{LogSums}
use Rattle.log_promises.specs.Logs.{LogDamaged, LogDiffers, LogAgrees, LogRefusedOpen, LogBlocks, LogCut, LogRecorded, LogOfTheRun}
use Rattle.message_promises.specs.Promises.{Lengths, ReadExact, RestExact, WriteExact, Acceptance, RoundTrip, OneMeaning}
use Rattle.table.specs.Theorems.{Determined, OneTable}
use Rattle.totals.specs.Described.{SummaryRight, OneSummary}

pub record Signed : Type 0 where
  -- demand 1: any numbers and any lent table get an answer; a refused call changes no state and writes into no lent memory
  pub refusals : Refusals
  -- demand 2: places, free sections and end of file are those of document 01; live and free pieces cover the file
  pub keeps : Keeps
  pub runs : Runs
  pub edits : Edits
  pub new_bytes : NewBytes
  pub placing : Placing
  pub one_of_five : OneOfFive
  pub exactly : Exactly
  pub listings : Listings
  pub the_run : TheRun
  -- document 01's own sentences give the same table and end
  pub allocating : Allocating
  pub releasing : Releasing
  pub extending : Extending
  pub shortening : Shortening
  -- the message is written and read back to equal fields and equal bytes
  pub lengths : Lengths
  pub read_exact : ReadExact
  pub rest_exact : RestExact
  pub write_exact : WriteExact
  pub acceptance : Acceptance
  pub round_trip : RoundTrip
  pub one_meaning : OneMeaning
  -- demand 3: releases in any order end with the one table and end of file that the pieces still live determine
  pub any_order : AnyOrder
  pub two_orders : TwoOrders
  pub determined : Determined
  pub one_table : OneTable
  -- each call's promise allows one result
  pub one_result : OneResult
  -- a summary is what the request says, number by number; and each call with one is tied to the call without it, so that all this is said of it too
  pub summary_right : SummaryRight
  pub one_summary : OneSummary
  pub tied : Tied
  pub refusals_with : RefusalsWith
  pub exactly_with : ExactlyWith
  pub keeps_with : KeepsWith
  pub runs_with : RunsWith
  pub any_order_with : AnyOrderWith
  pub two_orders_with : TwoOrdersWith
  pub one_result_with : OneResultWith
  -- over an area of bytes, as a program in C keeps it, each call is the same call, and so is each run; an area's bytes are its state and table
  pub area_bytes : AreaBytes
  pub area_calls : AreaCalls
  pub area_refused : AreaRefused
  pub area_done : AreaDone
  pub area_runs : AreaRuns
  pub area_any_order : AreaAnyOrder
  pub one_area : OneArea
  -- a recorder's log is judged as the request says, block after block; and the log of a run that was recorded agrees
  pub log_damaged : LogDamaged
  pub log_differs : LogDiffers
  pub log_agrees : LogAgrees
  pub log_refused_open : LogRefusedOpen
  pub log_sums : LogSums
  pub log_blocks : LogBlocks
  pub log_cut : LogCut
  pub log_recorded : LogRecorded
  pub log_of_the_run : LogOfTheRun
