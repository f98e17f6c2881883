-- What the commands that mend mistakes leave as it was.
use Rattle.std.proofs.Common.{◌≡◌, ℕ, Bool, true, false, ◌&&◌, ◌==◌, cond, List, [], ◌∷◌, ◌++◌}
use Rattle.std.proofs.Common.{Option, Some, None, option_map, is_some, refl, sym, ap, ◌∙◌, arith}
use Rattle.std.proofs.Common.{◌+◌, subst, append_assoc, eqb-true}
use Rattle.formats.specs.{declared.events.Event.Event, Events.same_event}
use Rattle.formats.proofs.SameEvent.{same_event-equal}
use Rattle.texts.specs.declared.command.{Command.Command, Settings.Settings}
use Rattle.texts.specs.declared.command.Command.TheVariants.{Close, Reopen}
use Rattle.rounds.specs.Tables.{Table}
use Rattle.commands.specs.Accepted.{again_refusal, reopen_refusal, round_of}
use Rattle.commands.specs.MendingLaws.{ClosesAsBefore, RenamesAlone}
use Rattle.commands.specs.model.Kept.{with_end, with_reopening}
use Rattle.commands.proofs.EachCommand.{round_close, round_reopen, round_rename}
use Rattle.commands.proofs.Lookups.{some≢none}
use Rattle.texts.specs.declared.answer.Code.TheVariants as code
use Rattle.rounds.specs.declared.fault.ReopenFault.TheVariants as reopen

-- a round that may be opened again is closed
abbrev IsClosedRound : Option (Settings × Table) → Type 0
IsClosedRound None = Unit {0}
IsClosedRound (Some round) = round.1.is_closed ≡ true

closed_there : (next round : Option (Settings × Table)) → reopen_refusal next round ≡ None
    → IsClosedRound round
closed_there next None h = tt
closed_there next (Some round) h = step round.1.is_closed (is_some next) h
  where
    step : (b t : Bool) → again_refusal (cond b None (Some reopen.NotClosed)) t ≡ None → b ≡ true
    step true t h = refl
    step false t h = absurd (some≢none code.NotClosed h)

-- a closed round that is opened again and closed
both : (round : Option (Settings × Table)) → IsClosedRound round
    → option_map with_end (option_map with_reopening round) ≡ round
both None h = refl
both (Some round) h =
    ap (λ (b : Bool).
    let again : Settings × Table = (round.0, record round.1 { is_closed = b }) in Some again)
    (sym h)

pub closes_as_before : ClosesAsBefore
closes_as_before cs id event round allowed =
    ap (λ (ds : List Command). round_of ds event round)
    (sym (append_assoc cs (Reopen id ∷ []) (Close id ∷ [])))
    ∙ round_close event id.event round id.round (cs ++ Reopen id ∷ [])
    ∙ ap (λ (x : Option (Settings × Table)).
    cond (same_event event id.event && round == id.round) (option_map with_end x) x)
    (round_reopen event id.event round id.round cs)
    ∙ step (same_event event id.event && round == id.round) refl
  where
    was : Option (Settings × Table)
    was = round_of cs event round

    step : (b : Bool) → (same_event event id.event && round == id.round) ≡ b
        → cond b (option_map with_end (cond b (option_map with_reopening was) was))
        (cond b (option_map with_reopening was) was) ≡ was
    step true here =
        let same_event_is : event ≡ id.event = same_event-equal event id.event (grind arith) in
        let same_round_is : round ≡ id.round = eqb-true round id.round (grind arith) in
        let there : round_of cs id.event id.round ≡ was =
        sym (ap (λ (e : Event). round_of cs e round) same_event_is
        ∙ ap (λ (r : ℕ). round_of cs id.event r) same_round_is) in
        both was (subst IsClosedRound there
        (closed_there (round_of cs id.event (id.round + 1)) (round_of cs id.event id.round)
        allowed))
    step false here = refl

pub renames_alone : RenamesAlone
renames_alone cs number name event round = round_rename event round number name cs
