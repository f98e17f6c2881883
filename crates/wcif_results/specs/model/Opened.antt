-- A model of the code: what is kept of a round of a meet, and of one of a file.
use Rattle.std.specs.Prelude.{ℕ, List}
use Rattle.wcif_results.specs.{MeetRounds.MeetRound as Round, declared.reading.HeldRound.HeldRound}
use Rattle.wcif_results.specs.declared.meet_rounds.MeetRound.{MeetRound}

abbrev pub round_view : MeetRound → Round
round_view r =
    record {
      event = r.event;
      number = r.number;
      id = r.id.items;
      format = r.format;
      table = r.table.now;
    }

abbrev pub held_view : HeldRound → List ℕ × List ℕ
held_view r = (r.id.now, r.format.now)
