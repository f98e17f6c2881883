-- A card that is taken back (the project's own).
use Rattle.std.specs.Prelude.{◌≡◌, ℕ, ◌&&◌, Bool, true, false, if◌then◌else◌, not, nat_le, nat_lt}
use Rattle.std.specs.Prelude.{codes, get_or, length, List, map, slice_get, option_map, Option, None}
use Rattle.std.specs.{Prelude.Some, List.range_with_len, Option.option_and_then}
use Rattle.attempts.specs.declared.{Unit.Unit as Measure, Value.Value}
use Rattle.acceptor.specs.declared.entry.Entry.{Entry}
use Rattle.card_forms.specs.{declared.pairs.Pair.Pair, Entries.card_entry, Entries.card_in}
use Rattle.commands.specs.Accepted.{card_values, round_by, scramble_of}
use Rattle.formats.specs.Events.{unit_of}
use Rattle.outbox.specs.declared.{item.Item.Item, state.ItemState.ItemState}
use Rattle.outbox.specs.{Items.ItemsOf, Items.is_answered, Outboxes.state_in}
use Rattle.table_views.specs.{declared.around.PageContext.PageContext, Logs.accepted_in}
use Rattle.texts.specs.declared.command.{CardEntry.CardEntry, Command.Command, Entered.Entered}
use Rattle.texts.specs.declared.command.Settings.{Settings}
use Rattle.texts.specs.Fields.{all_of, card_entry as over}
use Rattle.table_service.specs.{declared.plan.RequestPlan.RequestPlan, Checks.is_left}
use Rattle.table_service.specs.Answering.{PlansItem, PlansOver, item_of}
use Rattle.table_service.specs.{Replying.refuses, Taking.has_room}
use Rattle.attempts.specs.declared.Unit.TheVariants as measure
use Rattle.attempts.specs.declared.Value.TheVariants as value
use Rattle.outbox.specs.declared.state.ItemState.TheVariants as state
use Rattle.texts.specs.declared.command.Entered.TheVariants as entered
use Rattle.table_service.specs.declared.plan.Problem.TheVariants as problem

-- ---- what is to count again

abbrev pub is_below : Option ℕ → ℕ → Bool
is_below None time = true
is_below (Some limit) time = nat_lt time limit

-- a time without penalties, where it is typed as one below the limit of its round
abbrev pub time_for : Option ℕ → ℕ → Option Entered
time_for limit time =
    if is_below limit time && nat_le 1 time && nat_le time 999999
    then Some (entered.Time time 0) else None

-- what is typed so that it counts as a value: a time, where the event has times, or no result
abbrev pub typed_for : Measure → Option ℕ → Value → Option Entered
typed_for unit limit value.Dnf = Some entered.Dnf
typed_for unit limit value.Dns = Some entered.Dns
typed_for measure.Time limit (value.Number time) = time_for limit time
typed_for measure.Moves limit (value.Number moves) = None
typed_for measure.Multi limit (value.Number result) = None

abbrev pub back_if : Bool → Measure → Option ℕ → Option Value → Option (Option Entered)
back_if true unit limit stood = Some None
back_if false unit limit stood = option_map Some (option_and_then (typed_for unit limit) stood)

-- what is to count again at a place, counted from 0, where a card left these values in place of
-- those: a value that is the same in both stays as it is
abbrev pub back_at : Measure → Option ℕ → List Value → List Value → ℕ → Option (Option Entered)
back_at unit limit left was place =
    back_if (is_left (slice_get was place) (slice_get left place)) unit limit (slice_get was place)

-- the same at each place where something counted before; none where that cannot be typed
abbrev pub back_of : Measure → Option ℕ → List Value → List Value → Option (List (Option Entered))
back_of unit limit left was =
    all_of (map (back_at unit limit left was) (range_with_len 0 (length was)))

-- ---- the card

abbrev pub undone_by : ℕ → CardEntry → List ℕ → List Value → Option (List (Option Entered))
    → Option Entry
undone_by id card remark left None = None
undone_by id card remark left (Some now) =
    card_entry id (over card.id card.number left now) remark

abbrev pub undone_over : ℕ → CardEntry → List ℕ → Settings → List Value → Option Entry
undone_over id card remark settings left =
    undone_by id card remark left (back_of (unit_of card.id.event) settings.limit left card.was)

abbrev pub undone_in : List Command → ℕ → CardEntry → List ℕ → Option Settings → Option Entry
undone_in accepted id card remark None = None
undone_in accepted id card remark (Some settings) =
    undone_over id card remark settings
    (card_values (scramble_of accepted card.id.event card.id.round) card settings)

-- the entry of the card that takes this one back, under an id, with a remark: it is over what this
-- card leaves, and enters what counted before it
abbrev pub undone_entry : List Command → ℕ → CardEntry → List ℕ → Option Entry
undone_entry accepted id card remark =
    undone_in accepted id card remark (option_map (λ round. round.0) (round_by accepted card.id))

-- ---- taking it back

abbrev pub is_saved : Option ItemState → Bool
is_saved (Some (state.Saved position)) = true
is_saved _ = false

-- the log says that the item of an id is saved, and no scoretaker has answered it
abbrev pub may_undo : List Entry → ItemsOf → ℕ → Bool
may_undo log list id = not (is_answered list id) && is_saved (state_in log list id)

-- what is said where what counted before cannot be typed
abbrev pub untyped_words : List ℕ
untyped_words = codes "what was there before cannot be entered: open the card and type it"

abbrev pub PlansUndoCard : PageContext → ItemsOf → ℕ → Option CardEntry → RequestPlan → Type 0
PlansUndoCard around q of None plan = plan ≡ refuses problem.BadForm
PlansUndoCard around q of (Some card) plan =
    PlansOver untyped_words (has_room q 1) around of card.id
    (undone_entry (accepted_in around.mirror.now) (get_or around.ids.now 0 0) card
    around.remark.now) plan

abbrev pub PlansUndoItem : PageContext → ItemsOf → ℕ → Item → RequestPlan → Type 0
PlansUndoItem around q of item plan =
    PlansUndoCard around q of (card_in item.entry.text) plan

-- a card that is saved, and that nobody has answered, is taken back by a new one, and counts as
-- answered
abbrev pub PlansUndo : PageContext → ItemsOf → List Pair → RequestPlan → Type 0
PlansUndo around q pairs plan =
    PlansItem (may_undo around.mirror.now q) (PlansUndoItem around q) (item_of q pairs) plan
