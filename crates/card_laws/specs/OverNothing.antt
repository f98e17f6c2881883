-- A card of somebody of whom nothing counts in the round comes to the attempts of the same
-- outcomes, one after the other (the project's own).
use Rattle.std.specs.Prelude.{◌≡◌, ◌↔◌, ℕ, suc, true, List, [], ◌∷◌, ◌++◌, map, All, Option, None}
use Rattle.std.specs.Prelude.{Some}
use Rattle.formats.specs.declared.{events.Event.Event, styles.SheetStyle.SheetStyle as Style}
use Rattle.texts.specs.declared.command.{Command.Command, CardEntry.CardEntry, RoundId.RoundId}
use Rattle.texts.specs.declared.command.Command.TheVariants.{Attempt, Card}
use Rattle.texts.specs.declared.command.{Entered.Entered, Settings.Settings}
use Rattle.texts.specs.Fields.{attempt_entry, card_entry}
use Rattle.rounds.specs.Tables.{Table, IsCutoff, has_number}
use Rattle.commands.specs.Accepted.{refusal, round_of, round_by, scramble_of, unfit_card_refusal}
use Rattle.sheets.specs.Sheet.{sheet}
use Rattle.card_laws.specs.Accepting.{first_refusal, AreAccepted}

-- the attempts of these outcomes from attempt k on, each a command
abbrev pub attempts_from : RoundId → ℕ → ℕ → List Entered → List Command
attempts_from id n k [] = []
attempts_from id n k (x ∷ xs) =
    Attempt (attempt_entry id k n x) ∷ attempts_from id n (suc k) xs

-- the card of these outcomes, whose writer saw that nothing counts
abbrev pub first_card : RoundId → ℕ → List Entered → CardEntry
first_card id n xs = card_entry id n [] (map Some xs)

-- nothing counts of a number in a round: an entrant with the number there has no values
abbrev pub StandsBare : ℕ → Option (Settings × Table) → Type 0
StandsBare n None = Unit {0}
StandsBare n (Some round) = All (λ e. has_number n e ≡ true → e.values ≡ []) round.1.entrants

-- the cutoff of a round is one that its format can have
abbrev pub HasRules : Option (Settings × Table) → Type 0
HasRules None = Unit {0}
HasRules (Some round) = IsCutoff round.1.format round.1.cutoff

-- over nothing a card makes of each round, of every event, what the attempts make of it
abbrev pub CardIsAttempts : Type 0
CardIsAttempts =
    (cs : List Command) (id : RoundId) (n : ℕ) (xs : List Entered) (e : Event) (r : ℕ)
    → StandsBare n (round_by cs id) → round_of (cs ++ Card (first_card id n xs) ∷ []) e r
    ≡ round_of (cs ++ attempts_from id n 1 xs) e r

-- and each sheet is the same, byte for byte and in both forms. The position is given to a sheet and
-- is no part of the commands: these are as many as the outcomes, and the card is one.
abbrev pub CardPrintsAsAttempts : Type 0
CardPrintsAsAttempts =
    (style : Style) (cs : List Command) (id : RoundId) (n : ℕ) (xs : List Entered) (event : Event)
    (round position : ℕ) → StandsBare n (round_by cs id)
    → sheet style (cs ++ Card (first_card id n xs) ∷ []) event round position
    ≡ sheet style (cs ++ attempts_from id n 1 xs) event round position

-- over nothing a card with an outcome is accepted exactly where each of its attempts is, one after
-- the other
abbrev pub CardIsAcceptedAsAttempts : Type 0
CardIsAcceptedAsAttempts =
    (cs : List Command) (id : RoundId) (n : ℕ) (x : Entered) (xs : List Entered)
    → HasRules (round_by cs id) → StandsBare n (round_by cs id)
    → refusal cs (Card (first_card id n (x ∷ xs))) ≡ None
    ↔ AreAccepted cs (attempts_from id n 1 (x ∷ xs))

-- Where nothing counts of the number, the event allows all outcomes of a card that has one, and
-- each solution has its scramble, the card is refused with the code of the first of its attempts
-- that is refused. Elsewhere both are refused, and the codes may differ: each check is made of the
-- whole card before the next one, and whether outcomes fit comes before whether the round is open.
abbrev pub CardIsRefusedAsAttempts : Type 0
CardIsRefusedAsAttempts =
    (cs : List Command) (id : RoundId) (n : ℕ) (x : Entered) (xs : List Entered)
    → HasRules (round_by cs id) → StandsBare n (round_by cs id)
    → unfit_card_refusal id.event (scramble_of cs id.event id.round) (map Some (x ∷ xs)) ≡ None
    → refusal cs (Card (first_card id n (x ∷ xs)))
    ≡ first_refusal cs (attempts_from id n 1 (x ∷ xs))
