-- Entries that a form asks for, and that are to be taken (the project's own).
use Rattle.std.specs.Prelude.{◌≡◌, ℕ, ◌-◌, ◌<◌, ◌++◌, ◌==◌, Bool, true, false, if◌then◌else◌, codes}
use Rattle.std.specs.Prelude.{decimal, nat_le, length, slice_get, List, [], ◌∷◌, All, IfSome}
use Rattle.std.specs.{Prelude.Option, Prelude.None, Prelude.Some, Prelude.option_map, List.list_any}
use Rattle.acceptor.specs.declared.entry.Entry.{Entry}
use Rattle.card_forms.specs.Remarks.{is_same_but_remark}
use Rattle.table_people_views.specs.Refused.{faults_page}
use Rattle.outbox.specs.{declared.item.Item.Item, Items.ItemsOf, Items.item_in}
use Rattle.table_views.specs.declared.around.PageContext.{PageContext}
use Rattle.texts.specs.{declared.command.CardEntry.CardEntry, Spelling.IsEntered}
use Rattle.table_service.specs.declared.plan.{Effect.Effect, RequestPlan.RequestPlan}
use Rattle.table_service.specs.Replying.{GoesTo, ShowsPage, refuses}
use Rattle.table_service.specs.declared.plan.Effect.TheVariants as effect
use Rattle.table_service.specs.declared.plan.Problem.TheVariants as problem
use Rattle.table_service.specs.declared.plan.PageStatus.TheVariants as shown

-- the attempts that a card enters are few, and in their ranges
pub record IsFitCard (card : CardEntry) : Type 0 where
  pub few : length card.now < 256
  pub entered : All (λ o. IfSome o IsEntered) card.now

abbrev pub sent_as : Option Item → Entry → Bool
sent_as None entry = false
sent_as (Some item) entry = is_same_but_remark item.entry.text entry.text

-- the id of an entry is known with its text, whatever the remarks are
abbrev pub is_sent : ItemsOf → Entry → Bool
is_sent q entry = sent_as (item_in q entry.id) entry

abbrev pub other_by : Option Item → Entry → Option (List ℕ)
other_by None entry = None
other_by (Some item) entry =
    if is_same_but_remark item.entry.text entry.text then None else Some item.entry.text

-- the text under which the id of an entry is known, where it is another one, whatever the remarks
-- are
abbrev pub other_of : ItemsOf → Entry → Option (List ℕ)
other_of q entry = other_by (item_in q entry.id) entry

abbrev pub both_or : Option (List ℕ) → List ℕ → Option (List ℕ × List ℕ) → Option (List ℕ × List ℕ)
both_or None sent later = later
both_or (Some known) sent later = Some (known, sent)

-- the first of these entries whose id is known with another text: that text, and its own
abbrev pub other_in : ItemsOf → List Entry → Option (List ℕ × List ℕ)
other_in q [] = None
other_in q (entry ∷ entries) = both_or (other_of q entry) entry.text (other_in q entries)

-- there is room for this many entries
abbrev pub has_room : ItemsOf → ℕ → Bool
has_room q count = nat_le count (65536 - length q.items)

-- what is said of a form that was sent before with something else: both texts
abbrev pub both_words : List ℕ → List ℕ → List ℕ
both_words known sent =
    codes "This form was sent before, with this:\n" ++ known
    ++ codes "\nWhat is sent now is not entered:\n" ++ sent ++ codes "\n"

abbrev pub AreTaken : List Entry → Effect → Type 0
AreTaken entries (effect.Take them) = them.items ≡ entries
AreTaken entries _ = ⊥

-- the browser is sent to a place, and these entries are taken
pub record TakesThem (place : List ℕ) (entries : List Entry) (plan : RequestPlan) : Type 0 where
  pub goes : GoesTo place plan.reply
  pub takes : AreTaken entries plan.effect

-- the place of a page that waits for the item of an id
abbrev pub place_with : List ℕ → ℕ → List ℕ
place_with back id =
    back ++ (if list_any (λ b. b == 63) back then codes "&sent=" else codes "?sent=") ++ decimal id

abbrev pub place_after : List ℕ → Option ℕ → List ℕ
place_after back None = back
place_after back (Some id) = place_with back id

-- the id of the last of these entries
abbrev pub last_id : List Entry → Option ℕ
last_id entries = option_map (λ entry. entry.id) (slice_get entries (length entries - 1))

abbrev pub PlansRoom : Bool → List ℕ → List Entry → RequestPlan → Type 0
PlansRoom false back entries plan = plan ≡ refuses problem.Busy
PlansRoom true back entries plan =
    TakesThem (place_after back (last_id entries)) entries plan

abbrev pub PlansOther : Option (List ℕ × List ℕ) → ItemsOf → PageContext → List ℕ → List Entry
    → RequestPlan → Type 0
PlansOther (Some both) q around back entries plan =
    ShowsPage shown.Wrong (faults_page around back (both_words both.0 both.1)) plan
PlansOther None q around back entries plan =
    PlansRoom (has_room q (length entries)) back entries plan

-- entries are taken, and the browser moves on to a page that waits for the last of them; but where
-- the id of one of them is known with another text, or there is no room. What was taken before
-- stays as it is
abbrev pub PlansEntries : ItemsOf → PageContext → List ℕ → List Entry → RequestPlan → Type 0
PlansEntries q around back entries plan =
    PlansOther (other_in q entries) q around back entries plan
