-- The card of a form, as it was typed (the project's own).
use Rattle.std.specs.Prelude.{ℕ, ◌-◌, ◌^◌, List, [], ◌∷◌, codes, Option, None, Some, Result, Ok}
use Rattle.std.specs.{Prelude.Err, Option.option_map, Option.option_and_then}
use Rattle.attempts.specs.declared.Value.{Value}
use Rattle.formats.specs.{declared.events.Event.Event, Events.event_of_name, Events.last_round}
use Rattle.texts.specs.declared.command.RoundId.{RoundId}
use Rattle.texts.specs.Fields.{cut, number_between, round_id, was_of}
use Rattle.card_forms.specs.declared.{pairs.Pair.Pair, cards.CardForm.CardForm}
use Rattle.card_forms.specs.{declared.faults.CardFormFault.CardFormFault, Pairs.value_of}
use Rattle.card_forms.specs.declared.faults.CardFormFault.TheVariants as fault

-- an id of a form, as it is sent
abbrev pub form_id_of : List ℕ → Option ℕ
form_id_of text = number_between 1 (2 ^ 63 - 16384) text

-- a round of an event
abbrev pub round_with : Event → Option (List ℕ) → Option RoundId
round_with event number =
    option_map (round_id event) (option_and_then (number_between 1 last_round) number)

-- the name of an event, a hyphen, and a round
abbrev pub round_of : List ℕ → Option RoundId
round_of text =
    option_and_then (λ event. round_with event (cut 45 text).1) (event_of_name (cut 45 text).0)

-- the fields of the attempts, as they are typed
abbrev pub fields_of : List Pair → List (List ℕ)
fields_of pairs =
    value_of (codes "a1") pairs ∷ value_of (codes "a2") pairs ∷ value_of (codes "a3") pairs
    ∷ value_of (codes "a4") pairs ∷ value_of (codes "a5") pairs ∷ []

-- what the page filled these fields in with, where the form says so
abbrev pub filled_of : List Pair → List (List ℕ)
filled_of pairs =
    value_of (codes "f1") pairs ∷ value_of (codes "f2") pairs ∷ value_of (codes "f3") pairs
    ∷ value_of (codes "f4") pairs ∷ value_of (codes "f5") pairs ∷ []

-- the card of this id and round, over what its page showed
abbrev pub form_with : ℕ → RoundId → List Value → List Pair → CardForm
form_with id round was pairs = record {
  id = id;
  round = round;
  number = value_of (codes "number") pairs;
  was = was;
  filled = filled_of pairs;
  attempts = fields_of pairs;
}

abbrev pub form_of : Option ℕ → Option RoundId → Option (List Value) → List Pair
    → Result CardForm CardFormFault
form_of None round was pairs = Err fault.BadId
form_of (Some id) None was pairs = Err fault.BadRound
form_of (Some id) (Some round) None pairs = Err fault.BadWas
form_of (Some id) (Some round) (Some was) pairs = Ok (form_with id round was pairs)

-- the card of a form, or what is wrong with what a scoretaker cannot mend
abbrev pub card_form_of : List Pair → Result CardForm CardFormFault
card_form_of pairs =
    form_of (form_id_of (value_of (codes "id") pairs)) (round_of (value_of (codes "round") pairs))
    (was_of (value_of (codes "was") pairs)) pairs
