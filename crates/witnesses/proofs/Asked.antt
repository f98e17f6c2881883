-- What the calls of a mirror that is kept up lead to, and those of a survey.
use Rattle.std.proofs.Common.{◌≡◌, inl, inr, refl, sym, ◌∙◌, ℕ, false, List, [], ◌∷◌, ◌++◌, length}
use Rattle.std.proofs.{Common.None, Common.Some, Common.arith, lemmas.List.append-nil}
use Rattle.acceptor.specs.declared.entry.Entry.{Entry}
use Rattle.client.specs.Standings.{log_request, status_request_in_five}
use Rattle.desk_talks.specs.{Dialogues.CallsLead, declared.exchange.AnswerOutcome.AnswerOutcome}
use Rattle.desk_talks.specs.KeptConnections.{KeptConnectionOf, line}
use Rattle.desk_talks.specs.Exchanges.{HearsFrames, ExchangeOf, asking, heard_of, sending, talk}
use Rattle.mirror.specs.declared.mirror.MirrorGrowth.TheVariants.{Grew}
use Rattle.kept_mirror.specs.Histories.{CallLeads}
use Rattle.kept_mirror.specs.Mirrorings.{MirroringOf, mirroring, new_mirroring}
use Rattle.desk_survey.specs.Surveys.{DialogueLeads, SurveyOf, new_survey, survey}
use Rattle.wire.specs.Ranges.{AreOfLog, IsDesk, IsEntry, IsFrame}
use Rattle.wire.specs.{Spelling.spelling, Stream.Fed, Stream.front, Stream.holding}
use Rattle.wire.specs.declared.{frame.Frame.Frame, values.Version.TheVariants.Three}
use Rattle.witnesses.specs.Dialogues.{WorksDialogues, first, log_answer, mirror_after, mirror_calls}
use Rattle.witnesses.specs.Dialogues.{quiet, stands, status_answer, survey_after, survey_calls}
use Rattle.desk_talks.specs.declared.kept_connection.ConnectionStage.TheVariants as line_stage
use Rattle.desk_talks.specs.declared.exchange.AnswerOutcome.TheVariants as heard
use Rattle.log_follower.specs.declared.stages.AnswerWorth.TheVariants as worth
use Rattle.desk_survey.specs.declared.survey.Reachability.TheVariants as contact
use Rattle.wire.specs.declared.frame.FrameBody.TheVariants as what

-- the bytes of one frame come at once
one_comes : (f : Frame) → IsFrame f → Fed (spelling f) (holding []) (holding []) (f ∷ [])
unfolding front
one_comes f good = record {
  whole = refl;
  feeds =
      record {
        rest = [];
        whole = sym (append-nil (spelling f ++ []) ∙ append-nil (spelling f));
        each = (good, tt);
        ends = λ none. none;
        keeps = refl;
      };
  at_once = λ none. refl;
}

-- and it is heard where this question waits
pub hears : (told : AnswerOutcome) (asked f : Frame) (unsent : List ℕ) → IsFrame f
    → told ≡ heard_of (Some asked) (f ∷ [])
    → HearsFrames told (spelling f) (talk (holding []) (Some asked) unsent)
    (talk (holding []) None unsent)
hears told asked f unsent good is = record {
  frames = f ∷ [];
  fed = one_comes f good;
  heard_is = is;
  question_is = refl;
  unsent_is = refl;
}

-- a desk of three answers entries of a log from its beginning on
pub entries_frame : (desk len : ℕ) (entries : List Entry) → IsDesk desk → AreOfLog 0 len entries
    → IsFrame (record {
      version = Three;
      hall = 7;
      from = desk;
      to = 0;
      what = what.Entries 0 len entries;
    })
entries_frame desk len entries is log =
    record { hall = omega arith; goes = (is, refl); body = (omega arith, log) }

pub one_of_log : (e : Entry) → IsEntry e → AreOfLog 0 1 (e ∷ [])
one_of_log e is = record {
  from = omega arith;
  log = omega arith;
  most = omega arith;
  within = inr (omega arith);
  each = (is, tt);
}

first_is : IsEntry first
first_is = ((omega arith, omega arith), omega arith)

pub log_frame : IsFrame log_answer
log_frame =
    entries_frame 1 1 (first ∷ []) (omega arith, omega arith) (one_of_log first first_is)

status_frame : IsFrame status_answer
status_frame = record {
  hall = omega arith;
  goes = ((omega arith, omega arith), refl);
  body = (
    omega arith,
    record {
      log = omega arith;
      queue = omega arith;
      promised = tt;
      told = (refl, (omega arith, (omega arith, (omega arith, tt))));
      differs = tt;
    },
  );
}

-- ---- the mirror

abbrev mirror_at : KeptConnectionOf → MirroringOf
mirror_at l =
    mirroring 7 (record { desks = 3; desk = 1; worth = worth.Open; most = 0; behind = None }) l []
    None

abbrev asked : ExchangeOf
asked = asking quiet (log_request 7 1 0)

abbrev written : ExchangeOf
written = sending asked (length (spelling (log_request 7 1 0)))

mirrors : CallsLead CallLeads (new_mirroring 7 3) mirror_calls mirror_after
mirrors = (
  mirror_at (line (line_stage.Opening 0) None 0),
  (refl, refl),
  (
    mirror_at (line (line_stage.Opened 0) (Some quiet) 0),
    (line (line_stage.Opened 0) (Some quiet) 0, refl, refl),
    (
      mirror_at (line (line_stage.Asked 5) (Some asked) 1),
      (line (line_stage.Asked 5) (Some asked) 1, (quiet, refl, refl), refl),
      (
        mirror_at (line (line_stage.Asked 5) (Some written) 1),
        refl,
        (
          mirror_after,
          record {
            heard = heard.Answer (what.Entries 0 1 (first ∷ []));
            line = line (line_stage.Answered (Some 5)) (Some quiet) 1;
            hears = (quiet, inl (hears _ (log_request 7 1 0) log_answer [] log_frame refl), refl);
            follows =
                record {
                  taken = Some Grew;
                  takes = (
                    (omega arith, λ place mine its below. absurd (omega (arith, below))),
                    omega arith,
                    refl,
                  );
                  after = refl;
                  is = refl;
                };
          },
          refl,
        ),
      ),
    ),
  ),
)

-- ---- the survey

abbrev survey_at : KeptConnectionOf → SurveyOf
survey_at l = survey 7 1 l None contact.NotAsked false

abbrev question : ExchangeOf
question = asking quiet (status_request_in_five 7 1)

abbrev asked_so : ExchangeOf
asked_so = sending question (length (spelling (status_request_in_five 7 1)))

surveys : CallsLead DialogueLeads (new_survey 7 1) survey_calls survey_after
surveys = (
  survey_at (line (line_stage.Opening 0) None 0),
  (refl, refl),
  (
    survey_at (line (line_stage.Opened 0) (Some quiet) 0),
    (line (line_stage.Opened 0) (Some quiet) 0, refl, refl),
    (
      survey_at (line (line_stage.Asked 5) (Some question) 1),
      (
        line (line_stage.Asked 5) (Some question) 1,
        (quiet, refl, refl),
        refl,
      ),
      (
        survey_at (line (line_stage.Asked 5) (Some asked_so) 1),
        refl,
        (
          survey_after,
          record {
            heard = heard.Answer (what.Standing stands);
            after = line (line_stage.Answered (Some 5)) (Some quiet) 1;
            hears = (
              quiet,
              inl (hears _ (status_request_in_five 7 1) status_answer [] status_frame refl),
              refl,
            );
            follows = (refl, refl);
          },
          refl,
        ),
      ),
    ),
  ),
)

pub works : WorksDialogues
works = record { mirrors = mirrors; surveys = surveys }
