-- What it leaves to take back that a round was opened.
use Rattle.std.proofs.Common.{◌≡◌, ℕ, Bool, true, false, ◌||◌, not, cond, List, [], ◌∷◌, ◌++◌}
use Rattle.std.proofs.Common.{Option, Some, None, is_some, refl, sym, ap, ◌∙◌, arith, append_assoc}
use Rattle.std.proofs.Common.{eqb-true}
use Rattle.std.proofs.lemmas.Bool.{false≢true}
use Rattle.formats.{specs.declared.events.Event.Event, proofs.SameEvent.same_event-equal}
use Rattle.texts.specs.declared.answer.Code.{Code}
use Rattle.texts.specs.declared.command.{Command.Command, RoundId.RoundId, Settings.Settings}
use Rattle.texts.specs.declared.command.Command.TheVariants.{Open, Cancel}
use Rattle.rounds.specs.Tables.{Table}
use Rattle.commands.specs.Accepted.{is_of, round_of, round_by, refusal}
use Rattle.commands.specs.OpeningLaws.{CancelsAsBefore}
use Rattle.commands.proofs.EachCommand.{round_same, round_cancel}
use Rattle.texts.specs.declared.answer.Code.TheVariants as code

-- a round that may be opened is not
not_open : (cs : List Command) (id : RoundId) (settings : Settings)
    → refusal cs (Open id settings) ≡ None → round_by cs id ≡ None
not_open cs id settings allowed = step (round_by cs id) _ allowed
  where
    step : (x : Option (Settings × Table)) (rest : Option Code)
        → cond (is_some x) (Some code.RoundOpen) rest ≡ None → x ≡ None
    step None rest h = refl
    step (Some round) rest h = absurd (false≢true (sym (ap is_some h)))

-- an opening changes no other round
other_opened : (cs : List Command) (id : RoundId) (settings : Settings) (e : Event) (r : ℕ)
    → is_of e r id ≡ false → round_of (cs ++ Open id settings ∷ []) e r ≡ round_of cs e r
other_opened cs id settings e r other =
    round_same e r cs (Open id settings)
    (ap (λ (b : Bool). not (is_some (cond b (Some settings) None) || false)) other)
    (λ s. refl) refl (λ waiting earlier. refl) (λ n. refl) (λ settings earlier x. refl)

pub cancels_as_before : CancelsAsBefore
cancels_as_before cs id settings e r allowed =
    ap (λ (ds : List Command). round_of ds e r)
    (sym (append_assoc cs (Open id settings ∷ []) (Cancel id ∷ [])))
    ∙ round_cancel e id.event r id.round (cs ++ Open id settings ∷ [])
    ∙ step (is_of e r id) refl
  where
    step : (b : Bool) → is_of e r id ≡ b
        → cond b None (round_of (cs ++ Open id settings ∷ []) e r) ≡ round_of cs e r
    step true here =
        let event : e ≡ id.event = same_event-equal e id.event (grind arith) in
        let round : r ≡ id.round = eqb-true r id.round (grind arith) in
        sym (ap (λ (f : Event). round_of cs f r) event
        ∙ ap (λ (s : ℕ). round_of cs id.event s) round
        ∙ not_open cs id settings allowed)
    step false other = other_opened cs id settings e r other
