-- What is to be done for a request, by what is around a page (the project's own).
use Rattle.std.specs.Prelude.{◌≡◌, ◌⊎◌, ℕ, ◌==◌, ◌||◌, Bool, true, false, if◌then◌else◌, bytes_eq}
use Rattle.std.specs.Prelude.{codes, decimal, List, [], ◌∷◌, ◌++◌, is_some, Option, None, Some, Ok}
use Rattle.std.specs.{Prelude.Result, Prelude.Err, List.list_all, List.list_any, List.slice_split}
use Rattle.acceptor.specs.declared.entry.Entry.{Entry}
use Rattle.http.specs.declared.request.Request.{Request}
use Rattle.formats.specs.Events.{event_name}
use Rattle.card_forms.specs.declared.{cards.CardForm.CardForm, pairs.Pair.Pair}
use Rattle.card_forms.specs.declared.faults.{CardFormFault.CardFormFault, CardReading.CardReading}
use Rattle.card_forms.specs.{Asking.Asks, Asking.IsCommandText, Entries.card_entry, Entries.card_in}
use Rattle.card_forms.specs.{Cards.card_form_of, Cards.form_id_of, Pairs.value_of, Remarks.noted}
use Rattle.card_forms.specs.{Entries.entry_with, Readings.IsNotRead, Readings.IsReadAs}
use Rattle.card_forms.specs.Faults.{IsWrong as AsksNone, Said, said_words}
use Rattle.outbox.specs.Items.{ItemsOf, item_in}
use Rattle.table_entry_views.specs.declared.{draft.Draft.Draft, notes.CardNote.CardNote}
use Rattle.table_entry_views.specs.Notes.{note_word}
use Rattle.table_people_views.specs.Refused.{refused_page}
use Rattle.table_views.specs.{declared.around.PageContext.PageContext, Editions.is_latest}
use Rattle.table_views.specs.Logs.{accepted_in}
use Rattle.texts.specs.declared.command.{CardEntry.CardEntry, RoundId.RoundId}
use Rattle.table_service.specs.declared.plan.{RequestPlan.RequestPlan, PageStatus.PageStatus}
use Rattle.table_service.specs.{declared.reading.Resource.Resource, Remarks.remark_under}
use Rattle.table_service.specs.Asked.{asked_at, number_below, round_below}
use Rattle.table_service.specs.{Checks.all_doubts, Checks.unread_notes, Pages.IsCard, Pages.IsPage}
use Rattle.table_service.specs.Replying.{Sends, ShowsAs, ShowsIf, ShowsPage, refuses, shows}
use Rattle.table_service.specs.Requests.{path_of, query_of}
use Rattle.table_service.specs.Taking.{PlansEntries, is_sent, place_with}
use Rattle.card_forms.specs.declared.faults.CardFault.TheVariants as card
use Rattle.card_forms.specs.declared.faults.CardReading.TheVariants as reading
use Rattle.table_entry_views.specs.declared.draft.Draft.TheVariants as draft
use Rattle.table_entry_views.specs.declared.notes.CardNote.TheVariants as note
use Rattle.table_service.specs.declared.plan.Effect.TheVariants as effect
use Rattle.table_service.specs.declared.plan.Problem.TheVariants as problem
use Rattle.table_service.specs.declared.plan.PageReply.TheVariants as reply
use Rattle.table_service.specs.declared.plan.PageStatus.TheVariants as shown
use Rattle.table_service.specs.declared.reading.Resource.TheVariants as asked

-- ---- a request that only reads

abbrev pub ShowsView : ItemsOf → PageContext → List ℕ → Option (List ℕ) → Option Resource
    → RequestPlan → Type 0
ShowsView q around title file None plan = plan ≡ refuses problem.NotFound
ShowsView q around title file (Some asked.Style) plan = plan ≡ shows reply.Style
ShowsView q around title file (Some asked.Script) plan = plan ≡ shows reply.Script
ShowsView q around title file (Some (asked.Page view)) plan =
    (page : Option (List ℕ)) × IsPage q around title file view page × ShowsIf page plan

-- what is at the path
abbrev pub PlansRead : ItemsOf → PageContext → List ℕ → Option (List ℕ) → Request (List ℕ)
    → RequestPlan → Type 0
PlansRead q around title file request plan =
    ShowsView q around title file (asked_at (path_of request) (query_of request)) plan

-- ---- the form of a card

-- where the page of a round's cards is
abbrev pub cards_place : RoundId → List ℕ
cards_place id = codes "/card/" ++ event_name id.event ++ codes "-" ++ decimal id.round

-- where the page of a card is that was sent
abbrev pub card_place : CardForm → List ℕ
card_place form = place_with (cards_place form.round) form.id

-- what was typed, with these notes
abbrev pub IsTyped : CardForm → List CardNote → Draft → Type 0
IsTyped form notes (draft.Typed typed with) = (typed.now ≡ form) × (with.now ≡ notes)
IsTyped form notes _ = ⊥

-- the card's page, with what was typed and what is said of it
pub record HoldsCard (q : ItemsOf) (around : PageContext) (form : CardForm) (notes : List CardNote)
    (status : PageStatus) (plan : RequestPlan) : Type 0 where
  pub draft : Draft
  pub page : Option (List ℕ)
  pub typed : IsTyped form notes draft
  pub is : IsCard q around form.round draft page
  pub shows : ShowsAs status page plan

-- a word is among these, with a space between two
abbrev pub has_word : List ℕ → List ℕ → Bool
has_word word words = list_any (λ part. bytes_eq part word) (slice_split (λ b. b == 32) words)

-- the scoretaker has confirmed a note: its word is among those of the form's `sure`
abbrev pub is_confirmed : List ℕ → CardNote → Bool
is_confirmed sure note = has_word (note_word note) sure

abbrev pub are_confirmed : List ℕ → List CardNote → Bool
are_confirmed sure notes = list_all (is_confirmed sure) notes

-- a card that was taken already, or all of whose notes are confirmed, is entered
abbrev pub is_entered : ItemsOf → ℕ → List ℕ → List CardNote → Bool
is_entered q id sure notes = is_some (item_in q id) || are_confirmed sure notes

abbrev pub PlansCardEntry : ItemsOf → PageContext → CardForm → List CardNote → Entry → Bool
    → RequestPlan → Type 0
PlansCardEntry q around form notes entry true plan =
    PlansEntries q around (cards_place form.round) (entry ∷ []) plan
PlansCardEntry q around form notes entry false plan =
    HoldsCard q around form notes shown.Asked plan

-- with these notes on its card, of which the form confirms some
abbrev pub PlansNoted : ItemsOf → PageContext → CardForm → List ℕ → Entry → List CardNote
    → RequestPlan → Type 0
PlansNoted q around form sure entry notes plan =
    PlansCardEntry q around form notes entry (is_entered q entry.id sure notes) plan

-- what was sent already is what it was; else what is to be confirmed of this card, by the log and
-- by the competition's file, is asked first
abbrev pub PlansFit : Bool → ItemsOf → PageContext → Option (List ℕ) → CardForm → List ℕ → Entry
    → CardEntry → RequestPlan → Type 0
PlansFit true q around file form sure entry card plan =
    Sends (card_place form) effect.Nothing plan
PlansFit false q around file form sure entry card plan =
    PlansNoted q around form sure entry (all_doubts file (accepted_in around.mirror.now) card) plan

-- by the card that its entry spells
abbrev pub PlansSpelled : ItemsOf → PageContext → Option (List ℕ) → CardForm → List ℕ → Entry
    → Option CardEntry → RequestPlan → Type 0
PlansSpelled q around file form sure entry None plan = plan ≡ refuses problem.BadForm
PlansSpelled q around file form sure entry (Some card) plan =
    PlansFit (is_sent q entry) q around file form sure entry card plan

-- by the entry of the card, if its command has one
abbrev pub PlansCardAs : ItemsOf → PageContext → Option (List ℕ) → CardForm → List ℕ → Option Entry
    → RequestPlan → Type 0
PlansCardAs q around file form sure None plan =
    HoldsCard q around form (note.Card card.TooLong ∷ []) shown.Wrong plan
PlansCardAs q around file form sure (Some entry) plan =
    PlansSpelled q around file form sure entry (card_in entry.text) plan

-- the form is read as a card
pub record PlansReadCard (q : ItemsOf) (around : PageContext) (file : Option (List ℕ))
    (form : CardForm) (sure : List ℕ) (plan : RequestPlan) : Type 0 where
  pub entry : CardEntry
  pub read : IsReadAs form entry
  pub plans : PlansCardAs q around file form sure (card_entry form.id entry around.remark.now) plan

-- what is said of fields that are no card
abbrev pub fault_notes : CardReading → List CardNote
fault_notes (reading.Unread faults) = unread_notes faults
fault_notes (reading.Unfit why) = note.Card why ∷ []
fault_notes reading.NoMemory = []

-- the form is not read, and the page says why
abbrev pub PlansUnread : ItemsOf → PageContext → CardForm → RequestPlan → Type 0
PlansUnread q around form plan =
    (why : CardReading) × IsNotRead form why
    × HoldsCard q around form (fault_notes why) shown.Wrong plan

abbrev pub PlansForm : ItemsOf → PageContext → Option (List ℕ) → List ℕ
    → Result CardForm CardFormFault → RequestPlan → Type 0
PlansForm q around file sure (Err why) plan = plan ≡ refuses problem.BadForm
PlansForm q around file sure (Ok form) plan =
    PlansReadCard q around file form sure plan ⊎ PlansUnread q around form plan

-- the page that says in these words why nothing is sent, with a link back to this page
abbrev pub RefusesWith : PageContext → List ℕ → List ℕ → RequestPlan → Type 0
RefusesWith around back why plan = ShowsPage shown.Wrong (refused_page around back why) plan

-- what is said of a card in a hall of an earlier edition
abbrev pub earlier_words : List ℕ
earlier_words = codes "an earlier edition of the commands holds: this table accepts no cards"

abbrev pub PlansCardIf : Bool → PageContext → Option (List ℕ) → ItemsOf → List Pair → RequestPlan
    → Type 0
PlansCardIf false around file q pairs plan = RefusesWith around (codes "/") earlier_words plan
PlansCardIf true around file q pairs plan =
    PlansForm q around file (value_of (codes "sure") pairs) (card_form_of pairs) plan

-- in a hall of an earlier edition no card is taken
abbrev pub PlansCard : PageContext → Option (List ℕ) → ItemsOf → List Pair → RequestPlan → Type 0
PlansCard around file q pairs plan =
    PlansCardIf (is_latest (accepted_in around.mirror.now)) around file q pairs plan

-- ---- the form of a command

abbrev pub has_forms : List ℕ → Bool
has_forms path =
    bytes_eq path (codes "/people") || bytes_eq path (codes "/rounds")
    || bytes_eq path (codes "/import")
    || is_some (round_below (codes "/rounds?round=") path)
    || is_some (round_below (codes "/card/") path)
    || is_some (number_below (codes "/person/") path)

-- the page to move on to: the form's `back`, where it is one of the pages that have forms
abbrev pub page_after : List Pair → List ℕ
page_after pairs =
    if has_forms (value_of (codes "back") pairs) then value_of (codes "back") pairs else codes "/"

-- the form asks for no command: the page says which of its fields is wrong, and why
abbrev pub IsWrong : PageContext → List Pair → RequestPlan → Type 0
IsWrong around pairs plan =
    (it : Said) × AsksNone pairs it × RefusesWith around (page_after pairs) (said_words it) plan

-- the remark of a command that is entered now
abbrev pub remark_in : PageContext → List ℕ
remark_in around = remark_under around.mirror.now around.remark.now

-- the form asks for a command, which is taken under its id, with its remark
pub record AsksCommand (q : ItemsOf) (around : PageContext) (pairs : List Pair) (plan : RequestPlan)
    : Type 0 where
  pub id : ℕ
  pub text : List ℕ
  pub named : form_id_of (value_of (codes "id") pairs) ≡ Some id
  pub fit : IsCommandText text
  pub asks : Asks pairs text
  pub plans : PlansEntries q around (page_after pairs)
      (entry_with id (noted (remark_in around) text) ∷ []) plan

-- the form has no id
abbrev pub LacksId : List Pair → RequestPlan → Type 0
LacksId pairs plan =
    (form_id_of (value_of (codes "id") pairs) ≡ None) × (plan ≡ refuses problem.BadForm)

abbrev pub PlansCommand : PageContext → ItemsOf → List Pair → RequestPlan → Type 0
PlansCommand around q pairs plan =
    LacksId pairs plan ⊎ (IsWrong around pairs plan ⊎ AsksCommand q around pairs plan)
