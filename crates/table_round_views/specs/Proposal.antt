-- What is proposed for a round that is to be opened (the project's own).
use Rattle.std.specs.Prelude.{ℕ, ◌-◌, Bool, true, false, if◌then◌else◌, nat_le, length, List, None}
use Rattle.std.specs.{Prelude.Option, Prelude.Some, List.list_any, List.range_with_len}
use Rattle.advancement.specs.Advancing.{advancing, quota}
use Rattle.commands.specs.Accepted.{competitors_seen, has_too_few, round_by}
use Rattle.formats.specs.declared.advance.Advance.{Advance, TheVariants.Final, TheVariants.Top}
use Rattle.rounds.specs.Tables.{Table}
use Rattle.texts.specs.declared.command.{Command.Command, RoundId.RoundId, Settings.Settings}
use Rattle.table_round_views.specs.{Comments.proposed_in, declared.proposal.Proposal.Proposal}

-- of an event's first round: a browser chooses the first format that the event allows
abbrev pub first_proposal : Proposal
first_proposal = record {
  format = None;
  cutoff = None;
  limit = None;
  advance = Final;
  come = None;
}

abbrev pub round_before : RoundId → RoundId
round_before id = record { event = id.event; round = id.round - 1 }

-- the competitors of a round before this one do not allow that another round follows this one (WCA
-- Regulations, article 9m)
abbrev pub is_last : List Command → RoundId → Bool
is_last accepted id =
    list_any (has_too_few (competitors_seen accepted id.event) id.round)
    (range_with_len 1 (id.round - 1))

-- it is the final where no round may follow, or at most 16 come into it; else 16 advance, or as
-- many as may (WCA Regulations, article 9p)
abbrev pub proposed_advance : Bool → ℕ → Advance
proposed_advance true come = Final
proposed_advance false come = if nat_le come 16 then Final else Top (quota (Top 16) come)

-- what the file proposes, except that it is the final where no round may follow; without a file,
-- format and limit are those of the round before
abbrev pub proposed_for : Bool → ℕ → Settings → Option Settings → Proposal
proposed_for last come before (Some told) = record {
  format = Some told.format;
  cutoff = told.cutoff;
  limit = told.limit;
  advance = if last then Final else told.advance;
  come = Some come;
}
proposed_for last come before None = record {
  format = Some before.format;
  cutoff = None;
  limit = before.limit;
  advance = proposed_advance last come;
  come = Some come;
}

abbrev pub proposed_after : Bool → Option Settings → Option (Settings × Table) → Proposal
proposed_after last told None = first_proposal
proposed_after last told (Some round) =
    proposed_for last (length (advancing round.1 round.0.advance)) round.0 told

-- over the accepted commands, and a file whose comments propose how rounds are held
abbrev pub proposed : List Command → List ℕ → RoundId → Proposal
proposed accepted file id =
    if nat_le id.round 1 then first_proposal
    else proposed_after (is_last accepted id) (proposed_in id file)
    (round_by accepted (round_before id))
