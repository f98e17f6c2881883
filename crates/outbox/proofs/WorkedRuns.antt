-- The worked run, call by call.
use Rattle.std.proofs.Common.{[], refl, arith, Some, None}
use Rattle.std.specs.Fmt.{digits}
use Rattle.texts.specs.Fields.{cut, number_between}
use Rattle.wire.specs.{Entries.IsEntry, Stream.holding}
use Rattle.desk_talks.specs.KeptConnections.{line, opening, new_line}
use Rattle.desk_talks.specs.Exchanges.{talk}
use Rattle.outbox.specs.Histories.{IsStarted, Leads, world}
use Rattle.outbox.specs.{Items.no_items, Items.queued, Worked.seven}
use Rattle.outbox.specs.Outboxes.{new_outbox, with_line, with_list}
use Rattle.outbox.specs.WorkedRuns.{WorkedRun, ending, file_of_five, five, five_since, new_file}
use Rattle.outbox.specs.WorkedRuns.{six, started_again, submitted, submitting}
use Rattle.desk_talks.specs.declared.kept_connection.ConnectionStage.TheVariants as stage

started : IsStarted seven 1 0 new_file (world (new_outbox 7 1 no_items) new_file)
unfolding cut digits number_between
started = record {
  list = no_items;
  reads = refl;
  fresh = refl;
  whole = record { lines = refl; ends = refl };
}

is_five : IsEntry five
is_five = ((omega arith, omega arith), omega arith)

is_six : IsEntry six
is_six = ((omega arith, omega arith), omega arith)

submits : Leads seven submitting submitted
unfolding digits
submits =
    let new = new_outbox 7 1 no_items in
    let kept = with_list new (five_since 3) in
    let opened = line (stage.Opened 4) (Some (talk (holding []) None [])) 0 in (
      world (with_line kept opened) file_of_five,
      (
        world (with_line kept (opening new_line 4)) file_of_five,
        (
          world kept file_of_five,
          (
            world (with_list new (queued no_items five 3)) new_file,
            (
              world new new_file,
              started,
              (is_five, queued no_items five 3, (refl, refl, refl), refl),
            ),
            refl,
          ),
          (with_line kept (opening new_line 4), (refl, refl), refl),
        ),
        (with_line kept opened, (opened, refl, refl), refl),
      ),
      (
        submitted.outbox,
        (submitted.outbox.line, (talk (holding []) None [], refl, refl), refl),
        refl,
      ),
    )

ends : Leads seven ending started_again
unfolding cut digits number_between
ends = (
  world (with_list submitted.outbox (queued (five_since 3) six 6)) file_of_five,
  (
    submitted,
    submits,
    (is_six, queued (five_since 3) six 6, (refl, refl, refl), refl),
  ),
  record {
    list = five_since 8;
    reads = refl;
    fresh = refl;
    whole = record { lines = refl; ends = refl };
  },
)

pub worked_run : WorkedRun
worked_run = record {
  submits = submits;
  promised = refl;
  ends = ends;
  looks = ((((((((tt, tt), tt), tt), tt), tt), tt), tt), ([], refl));
  passes = (started_again, ends, refl);
  decided = refl;
}
