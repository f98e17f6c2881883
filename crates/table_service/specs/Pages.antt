-- The pages that are made of the mirror (the project's own).
use Rattle.std.specs.Prelude.{◌≡◌, ℕ, ◌+◌, ◌-◌, Bool, true, false, nat_lt, List, [], ◌∷◌, Option}
use Rattle.std.specs.Prelude.{◌++◌, None, Some, codes, get_or, is_some, length, map, min, slice_get}
use Rattle.std.specs.Option.{option_copied}
use Rattle.acceptor.specs.declared.entry.Entry.{Entry}
use Rattle.card_forms.specs.Readings.{number_of}
use Rattle.outbox.specs.declared.{item.Item.Item, state.ItemState.ItemState}
use Rattle.outbox.specs.{Items.ItemsOf, Items.item_in, States.state_of}
use Rattle.commands.specs.Accepted.{round_by}
use Rattle.table_entry_views.specs.declared.{draft.Draft.Draft, origin.Origin.Origin}
use Rattle.table_entry_views.specs.{declared.past.Past.Past, History.history_page, Page.IsCardPage}
use Rattle.table_people_views.specs.{Importing.import_page, People.IsPeoplePage, Person.person_page}
use Rattle.table_round_views.specs.{Overview.overview, Rounds.rounds_page}
use Rattle.table_people_views.specs.Waiting.{waiting_page}
use Rattle.last_change.specs.Changes.{IsLastChange}
use Rattle.last_change.specs.Entering.{AreLastEntering, places, text_enters}
use Rattle.table_entry_views.specs.paper.{Labels.labels_page, Scorecards.IsScorecards}
use Rattle.table_entry_views.specs.paper.{Wall.IsWallSheet}
use Rattle.table_views.specs.{declared.around.PageContext.PageContext, Logs.accepted_in}
use Rattle.table_views.specs.{Frame.bottom, Frame.top, Recent.recent_section, Standing.standing}
use Rattle.scorecard.specs.Typed.{entered_typed}
use Rattle.sending_views.specs.{Page.IsBeforePage, declared.page.TheConstants.NO_FILE}
use Rattle.record_views.specs.Records.{records}
use Rattle.competition_file.specs.Files.{data_of}
use Rattle.texts.specs.declared.command.{Command.Command, Entered.Entered, RoundId.RoundId}
use Rattle.texts.specs.Fields.{cut_remark}
use Rattle.table_service.specs.{Asked.number_if, declared.reading.TableView.TableView}
use Rattle.outbox.specs.declared.state.ItemState.TheVariants as state
use Rattle.table_entry_views.specs.declared.draft.Draft.TheVariants as draft
use Rattle.table_service.specs.declared.reading.TableView.TheVariants as view

-- what a card is filled in with that is asked for
abbrev pub draft_of : Option ℕ → Draft
draft_of None = draft.Empty
draft_of (Some number) = draft.Number number

-- ---- a card

-- what is said of the entry at a position: how many entries there are up to it, whether it was
-- sent from this table, and its remark
pub record TellsEntry (q : ItemsOf) (at : ℕ) (entry : Entry) (origin : Origin) : Type 0 where
  pub position : origin.position ≡ at + 1
  pub here : origin.here ≡ is_some (item_in q entry.id)
  pub remark : option_copied origin.remark ≡ (cut_remark entry.text).1

abbrev pub TellsEntryIf : ItemsOf → ℕ → Option Entry → Option Origin → Type 0
TellsEntryIf q position None origin = origin ≡ None
TellsEntryIf q position (Some entry) None = ⊥
TellsEntryIf q position (Some entry) (Some origin) = TellsEntry q position entry origin

-- the same of the entry of a log at a position
abbrev pub TellsEntryAt : ItemsOf → List Entry → ℕ → Option Origin → Type 0
TellsEntryAt q log position origin =
    TellsEntryIf q position (slice_get log position) origin

abbrev pub TellsLast : ItemsOf → List Entry → Option ℕ → Option Origin → Type 0
TellsLast q log None origin = origin ≡ None
TellsLast q log (Some position) origin = TellsEntryAt q log position origin

-- by which entry of the log the attempts of a competitor in a round count as they do, if by any
abbrev pub IsOrigin : ItemsOf → List Entry → RoundId → ℕ → Option Origin → Type 0
IsOrigin q log round number origin =
    (last : Option ℕ) × IsLastChange log round number last × TellsLast q log last origin

abbrev pub IsOriginFor : ItemsOf → List Entry → RoundId → Option ℕ → Option Origin → Type 0
IsOriginFor q log round None origin = origin ≡ None
IsOriginFor q log round (Some number) origin = IsOrigin q log round number origin

-- what was entered, as it may be typed
abbrev pub typed_if : Option Entered → List ℕ
typed_if None = []
typed_if (Some x) = entered_typed x

-- what the entry at a position enters for the attempt at a place, if it is known
abbrev pub typed_at : List Entry → RoundId → ℕ → ℕ → Option ℕ → List ℕ
typed_at log round number place None = []
typed_at log round number place (Some position) =
    typed_if (text_enters log round number place position)

abbrev pub all_typed_at : List Entry → RoundId → ℕ → List (Option ℕ) → List (List ℕ)
all_typed_at log round number last =
    map (λ place. typed_at log round number place (get_or last place None)) places

-- how many attempts of a competitor count in a round, at most five
abbrev pub stands_of : List Entry → RoundId → ℕ → ℕ
stands_of log round number = min (length (standing (accepted_in log) round number)) 5

-- for each attempt that counts, what was entered for it last, as it may be typed
abbrev pub AreFilled : List Entry → RoundId → ℕ → List (List ℕ) → Type 0
AreFilled log round number filled =
    (last : List (Option ℕ)) × AreLastEntering log round number (stands_of log round number) last
    × (filled ≡ all_typed_at log round number last)

abbrev pub AreFilledFor : List Entry → RoundId → Option ℕ → List (List ℕ) → Type 0
AreFilledFor log round None filled = filled ≡ [] ∷ [] ∷ [] ∷ [] ∷ [] ∷ []
AreFilledFor log round (Some number) filled = AreFilled log round number filled

-- the number of the competitor of a card, if it has one
abbrev pub number_in : Draft → Option ℕ
number_in draft.Empty = None
number_in (draft.Number number) = Some number
number_in (draft.Typed form notes) = number_if (number_of form.now.number)

-- the page of a card of a round, with this draft
pub record IsCard (q : ItemsOf) (around : PageContext) (round : RoundId) (draft : Draft)
    (page : Option (List ℕ)) : Type 0 where
  pub past : Past
  pub from : IsOriginFor q around.mirror.now round (number_in draft) past.origin
  pub filled : AreFilledFor around.mirror.now round (number_in draft) past.filled.now
  pub is : IsCardPage around round draft past (round_by (accepted_in around.mirror.now) round) page

-- ---- the page after a form

-- an item in this state waits, and was taken less than two seconds ago
abbrev pub waits_since : ItemState → ℕ → Bool
waits_since state.Waits ago = nat_lt ago 2000
waits_since _ ago = false

abbrev pub item_waits : List Entry → ℕ → Option Item → Bool
item_waits log now None = false
item_waits log now (Some item) = waits_since (state_of log item.entry) (now - item.since)

-- what was sent under this id waits, since less than two seconds
abbrev pub waits : ItemsOf → List Entry → ℕ → Option ℕ → Bool
waits q log now None = false
waits q log now (Some id) = item_waits log now (item_in q id)

-- the page of a card, or the page that waits for what was sent before it
abbrev pub IsCardAfter : Bool → ItemsOf → PageContext → RoundId → Draft → Option (List ℕ) → Type 0
IsCardAfter true q around round draft page = page ≡ Some (waiting_page around round)
IsCardAfter false q around round draft page = IsCard q around round draft page

-- ---- all pages

abbrev pub IsPeople : PageContext → Option (List ℕ) → Type 0
IsPeople around None = ⊥
IsPeople around (Some page) = IsPeoplePage around page

-- what is open before the results are sent in
abbrev pub IsBefore : PageContext → Option (List ℕ) → Option (List ℕ) → Type 0
IsBefore around file None = ⊥
IsBefore around file (Some page) = IsBeforePage around file page

-- the section of a round's personal records by the competition's file, or that there is none
abbrev pub records_beside : Option (List ℕ) → List Command → RoundId → List ℕ
records_beside None accepted round = NO_FILE.now
records_beside (Some file) accepted round = records (data_of file) accepted round

abbrev pub records_page : PageContext → Option (List ℕ) → RoundId → List ℕ
records_page around file round =
    top (codes "hall") (codes "Personal records") around
    ++ records_beside file (accepted_in around.mirror.now) round ++ recent_section around ++ bottom

-- this is the page, under the title of the hall, with the competition's file where there is one;
-- none where its round was not opened, or where nobody has its number
abbrev pub IsPage : ItemsOf → PageContext → List ℕ → Option (List ℕ) → TableView → Option (List ℕ)
    → Type 0
IsPage q around title file view.Overview page = page ≡ Some (overview around (is_some file))
IsPage q around title file view.People page = IsPeople around page
IsPage q around title file (view.Person number) page = page ≡ person_page around number
IsPage q around title file view.Import page = page ≡ Some (import_page around)
IsPage q around title file view.Before page = IsBefore around file page
IsPage q around title file view.Labels page =
    page ≡ Some (labels_page (accepted_in around.mirror.now) file)
IsPage q around title file (view.Records round) page = page ≡ Some (records_page around file round)
IsPage q around title file (view.Rounds round) page = page ≡ Some (rounds_page around round)
IsPage q around title file (view.Card round number) page =
    IsCardAfter around.waits q around round (draft_of number) page
IsPage q around title file (view.History round number) page =
    page ≡ Some (history_page around round number)
IsPage q around title file (view.Wall round) page =
    IsWallSheet title around.mirror.now round (round_by (accepted_in around.mirror.now) round) page
IsPage q around title file (view.Scorecards round) page =
    IsScorecards title (accepted_in around.mirror.now) file round
    (round_by (accepted_in around.mirror.now) round) page
