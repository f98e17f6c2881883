-- What the calls of a follower lead to.
use Rattle.std.proofs.Common.{◌≡◌, inl, refl, ℕ, List, [], ◌∷◌, None, Some, arith}
use Rattle.acceptor.specs.declared.entry.Entry.{Entry}
use Rattle.desk_talks.specs.{Exchanges.heard_of, KeptConnections.HearsOver, KeptConnections.line}
use Rattle.log_follower.specs.Histories.{Followed, IsAnswered, IsTimed, Leads, followed, lost}
use Rattle.log_follower.specs.Histories.{new_followed}
use Rattle.mirror.specs.declared.mirror.MirrorGrowth.TheVariants.{Differs, Grew, Known}
use Rattle.wire.specs.{Ranges.AreOfLog, Ranges.IsEntry, Ranges.IsFrame, Spelling.spelling}
use Rattle.wire.specs.declared.frame.{Frame.Frame, FrameBody.FrameBody}
use Rattle.witnesses.specs.{Dialogues.log_answer, Dialogues.quiet, Followed.opens, Followed.other}
use Rattle.witnesses.specs.Followed.{WorksFollower, answer, answered, asked_at, asks, asks_next, at}
use Rattle.witnesses.specs.Followed.{behind_at, differs_at, next_at, opened_at, question, waiting}
use Rattle.witnesses.proofs.Asked.{entries_frame, hears, log_frame, one_of_log}
use Rattle.desk_talks.specs.declared.exchange.AnswerOutcome.TheVariants as heard
use Rattle.desk_talks.specs.declared.kept_connection.ConnectionStage.TheVariants as stage
use Rattle.log_follower.specs.declared.stages.AnswerWorth.TheVariants as worth
use Rattle.wire.specs.declared.frame.FrameBody.TheVariants as what

opens_lead : Leads 3 opens opened_at
opens_lead = (new_followed 3, refl, (refl, refl))

asks_lead : Leads 3 asks asked_at
asks_lead = (
  at (stage.Opened 0) (Some quiet) 0,
  (opened_at, opens_lead, (line (stage.Opened 0) (Some quiet) 0, refl, refl)),
  record {
    desk = 1;
    line = asked_at.line;
    due = refl;
    asks = (quiet, refl, refl);
    after = refl;
  },
)

-- an answer comes to the question of this time
comes : (desk now : ℕ) (given : Frame) (body : FrameBody) → IsFrame given
    → heard.Answer body ≡ heard_of (Some (question desk)) (given ∷ [])
    → HearsOver (heard.Answer body) (spelling given)
    (line (stage.Asked now) (Some (waiting desk)) 1)
    (line (stage.Answered (Some now)) (Some (answered desk)) 1)
comes desk now given body good is =
    (answered desk, inl (hears _ (question desk) given (spelling (question desk)) good is), refl)

second_frame : (len : ℕ) (entries : List Entry) → AreOfLog 0 len entries
    → IsFrame (answer len entries)
second_frame len entries log = entries_frame 2 len entries (omega arith, omega arith) log

none_of_log : AreOfLog 0 0 []
none_of_log = record {
  from = omega arith;
  log = omega arith;
  most = omega arith;
  within = inl refl;
  each = tt;
}

other_is : IsEntry other
other_is = ((omega arith, omega arith), omega arith)

-- after the answer, and once the connection is lost
abbrev answered_at : Followed
answered_at =
    followed (record { desks = 3; desk = 1; worth = worth.Useful; most = 1; behind = None })
    (line (stage.Answered (Some 5)) (Some (answered 1)) 1)

first_answered : IsAnswered 10 (Some Grew) 1 1 asked_at answered_at
first_answered = record {
  piece = spelling log_answer;
  answer = log_answer.what;
  line = answered_at.line;
  hears = comes 1 5 log_answer log_answer.what log_frame refl;
  after = refl;
}

next_lead : Leads 3 asks_next next_at
next_lead = (
  followed next_at.follower (line (stage.Opened 260) (Some quiet) 0),
  (
    followed next_at.follower (line (stage.Opening 260) None 0),
    (lost answered_at, (answered_at, (asked_at, asks_lead, first_answered), refl), (refl, refl)),
    (line (stage.Opened 260) (Some quiet) 0, refl, refl),
  ),
  record {
    desk = 2;
    line = next_at.line;
    due = refl;
    asks = (quiet, refl, refl);
    after = refl;
  },
)

behind_answered : IsAnswered 270 (Some Known) 1 0 next_at behind_at
behind_answered = record {
  piece = spelling (answer 0 []);
  answer = what.Entries 0 0 [];
  line = behind_at.line;
  hears = comes 2 260 (answer 0 []) (what.Entries 0 0 []) (second_frame 0 [] none_of_log) refl;
  after = refl;
}

other_answered : IsAnswered 270 (Some (Differs 0)) 1 1 next_at differs_at
other_answered =
    let log = other ∷ [] in
    record {
      piece = spelling (answer 1 log);
      answer = what.Entries 0 1 log;
      line = differs_at.line;
      hears =
          comes 2 260 (answer 1 log) (what.Entries 0 1 log)
          (second_frame 1 log (one_of_log other other_is)) refl;
      after = refl;
    }

asks_timed : IsTimed asks
asks_timed = ((tt, omega arith), omega arith)

next_timed : IsTimed asks_next
next_timed = (((asks_timed, omega arith), omega arith), omega arith)

pub works : WorksFollower
works = record {
  place = record { first = omega arith; last = omega arith; most = omega arith };
  opening_reached =
      record { leads = opens_lead; timed = (tt, omega arith); later = omega arith };
  is_opening = refl;
  asked_reached = record { leads = asks_lead; timed = asks_timed; later = omega arith };
  waits = refl;
  same = refl;
  longest_told = refl;
  tried = refl;
  leaves = refl;
  next_reached = record { leads = next_lead; timed = next_timed; later = omega arith };
  behind_reached =
      record {
        leads = (next_at, next_lead, behind_answered);
        timed = (next_timed, omega arith);
        later = omega arith;
      };
  is_behind = refl;
  leaves_behind = refl;
  differs_reached =
      record {
        leads = (next_at, next_lead, other_answered);
        timed = (next_timed, omega arith);
        later = omega arith;
      };
  has_differed = refl;
  stops = refl;
}
