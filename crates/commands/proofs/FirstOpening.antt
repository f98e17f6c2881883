-- Where no command takes a round back, the opening that holds is the first one.
use Rattle.std.proofs.Common.{◌≡◌, ℕ, Bool, true, false, ◌||◌, cond, List, [], ◌∷◌, ◌++◌, Option}
use Rattle.std.proofs.Common.{Some, None, option_map, refl, ap, ◌∙◌, sym, append_assoc, append-nil}
use Rattle.std.specs.{Option.option_or, List.list_any}
use Rattle.std.proofs.lemmas.Bool.{false≢true}
use Rattle.formats.specs.declared.events.Event.{Event}
use Rattle.texts.specs.declared.command.{Command.Command, Settings.Settings}
use Rattle.commands.specs.Accepted.{Opened, opened, opened_after, opening, is_cancelled}
use Rattle.commands.specs.Accepted.{just_opened, plus_command}
use Rattle.commands.specs.OpeningLaws.{first_opened, FirstOpeningHolds}

-- none of these commands takes a round back
abbrev none_cancelled : Event → ℕ → List Command → Type 0
none_cancelled e r cs = list_any (is_cancelled e r) cs ≡ false

-- neither the first does
none_first : (a b : Bool) → (a || b) ≡ false → a ≡ false
none_first false b h = refl
none_first true b h = h

-- nor one of the others
none_later : (a b : Bool) → (a || b) ≡ false → b ≡ false
none_later false b h = h
none_later true b h = absurd (false≢true (sym h))

-- a round that is opened stays so
stays_opened : (e : Event) (r : ℕ) (earlier : List Command) (o : Opened) (cs : List Command)
    → none_cancelled e r cs
    → opened_after e r earlier (Some o) cs ≡ Some (record o { since = o.since ++ cs })
stays_opened e r earlier o [] none =
    ap (λ (since : List Command). Some (record o { since = since })) (sym (append-nil o.since))
stays_opened e r earlier o (c ∷ cs) none =
    ap (λ (b : Bool).
    opened_after e r (earlier ++ c ∷ []) (cond b None (Some (plus_command c o))) cs)
    (none_first (is_cancelled e r c) (list_any (is_cancelled e r) cs) none)
    ∙ stays_opened e r (earlier ++ c ∷ []) (plus_command c o) cs
    (none_later (is_cancelled e r c) (list_any (is_cancelled e r) cs) none)
    ∙ ap (λ (since : List Command). Some (record o { since = since }))
    (append_assoc o.since (c ∷ []) cs)

pub opened_is_first : FirstOpeningHolds
opened_is_first e r earlier [] none = refl
opened_is_first e r earlier (c ∷ cs) none =
    step (opening e r c) later (opened_is_first e r (earlier ++ c ∷ []) cs later)
  where
    here : List Command
    here = earlier ++ c ∷ []

    later : none_cancelled e r cs
    later = none_later (is_cancelled e r c) (list_any (is_cancelled e r) cs) none

    step : (o : Option Settings) → none_cancelled e r cs
        → opened e r here cs ≡ first_opened e r here cs
        → opened_after e r here (option_map (just_opened earlier) o) cs ≡ option_or
        (option_map (λ settings. record { before = earlier; settings = settings; since = cs }) o)
        (first_opened e r here cs)
    step None later same = same
    step (Some settings) later same =
        stays_opened e r here (just_opened earlier settings) cs later
