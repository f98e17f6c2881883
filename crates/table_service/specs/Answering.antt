-- What a scoretaker answers to items that were not saved (the project's own).
use Rattle.std.specs.Prelude.{◌≡◌, ℕ, ◌-◌, ◌^◌, Bool, true, false, codes, get_or, length, List}
use Rattle.std.specs.Prelude.{Option, None, Some, option_map}
use Rattle.attempts.specs.declared.Value.{Value}
use Rattle.acceptor.specs.declared.entry.Entry.{Entry}
use Rattle.card_forms.specs.{declared.pairs.Pair.Pair, Pairs.value_of}
use Rattle.card_forms.specs.Entries.{card_entry, card_in}
use Rattle.outbox.specs.{declared.item.Item.Item, Items.ItemsOf, Items.item_in, Outboxes.may_answer}
use Rattle.table_views.specs.declared.around.PageContext.{PageContext}
use Rattle.texts.specs.declared.command.{CardEntry.CardEntry, RoundId.RoundId}
use Rattle.texts.specs.Fields.{card_entry as over, enters_later, number_between, was_of}
use Rattle.table_service.specs.declared.plan.{Effect.Effect, RequestPlan.RequestPlan}
use Rattle.table_service.specs.{Plans.RefusesWith, Plans.cards_place, Replying.Sends}
use Rattle.table_service.specs.{Replying.refuses, Taking.has_room, Taking.place_with}
use Rattle.table_service.specs.declared.plan.Effect.TheVariants as effect
use Rattle.table_service.specs.declared.plan.Problem.TheVariants as problem

-- ---- the item of a form

abbrev pub item_at : ItemsOf → Option ℕ → Option (ℕ × Item)
item_at q None = None
item_at q (Some of) = option_map (λ item. (of, item)) (item_in q of)

-- the item that a form names by its id, which comes first
abbrev pub item_of : ItemsOf → List Pair → Option (ℕ × Item)
item_of q pairs = item_at q (number_between 1 (2 ^ 63 - 1) (value_of (codes "id") pairs))

-- the page to move on to: the cards of the round, where the item is a card
abbrev pub place_of : Option CardEntry → List ℕ
place_of None = codes "/"
place_of (Some card) = cards_place card.id

-- the item stays as it is, with this effect
abbrev pub PlansLeaving : Item → Effect → RequestPlan → Type 0
PlansLeaving item what plan = Sends (place_of (card_in item.entry.text)) what plan

abbrev pub PlansItemIf : Bool → (ℕ → Item → RequestPlan → Type 0) → ℕ → Item → RequestPlan → Type 0
PlansItemIf false Plans of item plan = PlansLeaving item effect.Nothing plan
PlansItemIf true Plans of item plan = Plans of item plan

-- what is planned for the item that a form names, where that may be done with it; any other item
-- stays as it is
abbrev pub PlansItem : (ℕ → Bool) → (ℕ → Item → RequestPlan → Type 0) → Option (ℕ × Item)
    → RequestPlan → Type 0
PlansItem may Plans None plan = plan ≡ refuses problem.BadForm
PlansItem may Plans (Some it) plan = PlansItemIf (may it.0) Plans it.0 it.1 plan

-- a card stands for the item of this id, under the first of a page's ids: its entry, or what is
-- said where it has none
abbrev pub PlansOver : List ℕ → Bool → PageContext → ℕ → RoundId → Option Entry → RequestPlan
    → Type 0
PlansOver why room around of id None plan = RefusesWith around (cards_place id) why plan
PlansOver why false around of id (Some entry) plan = plan ≡ refuses problem.Busy
PlansOver why true around of id (Some entry) plan =
    Sends (place_with (cards_place id) entry.id) (effect.Again entry of) plan

-- ---- leaving it

-- an item counts as answered if the log says what became of it
abbrev pub PlansAnswered : PageContext → ItemsOf → List Pair → RequestPlan → Type 0
PlansAnswered around q pairs plan =
    PlansItem (may_answer around.mirror.now q)
    (λ of item left. PlansLeaving item (effect.Answer of) left) (item_of q pairs) plan

-- ---- taking what was typed over what counts now

-- what is said where less counts than a card lets stay
abbrev pub less_words : List ℕ
less_words = codes "this card keeps more attempts than are on record: open the card and type it"

-- what was typed, over these values
abbrev pub card_over : CardEntry → List Value → CardEntry
card_over card was = over card.id card.number was card.now

-- under an id, with a remark, where what was to stay counts
abbrev pub again_entry : Bool → ℕ → CardEntry → List ℕ → List Value → Option Entry
again_entry false id card remark was = None
again_entry true id card remark was = card_entry id (card_over card was) remark

abbrev pub PlansAgainCard : PageContext → ItemsOf → ℕ → Option (List Value) → Option CardEntry
    → RequestPlan → Type 0
PlansAgainCard around q of None card plan = plan ≡ refuses problem.BadForm
PlansAgainCard around q of (Some was) None plan = plan ≡ refuses problem.BadForm
PlansAgainCard around q of (Some was) (Some card) plan =
    PlansOver less_words (has_room q 1) around of card.id
    (again_entry (enters_later (length was) card.now) (get_or around.ids.now 0 0) card
    around.remark.now was) plan

abbrev pub PlansAgainItem : PageContext → ItemsOf → List Pair → ℕ → Item → RequestPlan → Type 0
PlansAgainItem around q pairs of item plan =
    PlansAgainCard around q of (was_of (value_of (codes "was") pairs)) (card_in item.entry.text)
    plan

-- a card that was not saved, and that nobody has answered, is taken once more, over the values that
-- the page shows as counting now, and counts as answered
abbrev pub PlansAgain : PageContext → ItemsOf → List Pair → RequestPlan → Type 0
PlansAgain around q pairs plan =
    PlansItem (may_answer around.mirror.now q) (PlansAgainItem around q pairs) (item_of q pairs)
    plan
