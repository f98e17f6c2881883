-- What holds of each answer of the score table (the project's own).
use Rattle.std.specs.Prelude.{◌≡◌, ◌⊎◌, ℕ, ◌+◌, ◌++◌, ◌||◌, ◌∷◌, [], Bool, true, false, List}
use Rattle.std.specs.{Prelude.Some, Prelude.Ok, Prelude.codes, Prelude.map, Prelude.take}
use Rattle.std.specs.List.{AllByRecursion}
use Rattle.acceptor.specs.declared.entry.Entry.{Entry}
use Rattle.attempts.specs.declared.Value.{Value}
use Rattle.http.specs.declared.request.Request.{Request}
use Rattle.http1.specs.Fields.{Header}
use Rattle.http_server.specs.{declared.response.Response.Response, Response.fields_of}
use Rattle.card_forms.specs.declared.{cards.CardForm.CardForm, pairs.Pair.Pair}
use Rattle.card_forms.specs.{Asking.Asks as AsksOf, Asking.IsCommandText, Cards.form_id_of}
use Rattle.card_forms.specs.{Cards.card_form_of, Pairs.value_of, Readings.IsReadAs, Remarks.noted}
use Rattle.card_forms.specs.Entries.{card_entry, card_in, command_entries}
use Rattle.command_lists.specs.Lists.{texts_in}
use Rattle.commands.specs.Accepted.{are_values, card_values, round_by, scramble_of}
use Rattle.learner.specs.Laws.{IsPrefix}
use Rattle.outbox.specs.{declared.item.Item.Item, Outboxes.may_answer, States.state_of}
use Rattle.outbox.specs.Items.{ItemsOf}
use Rattle.rounds.specs.Tables.{Table}
use Rattle.table_views.specs.{Editions.is_latest, Logs.accepted_in, Standing.values_of}
use Rattle.texts.specs.{Fields.was_of, declared.command.Command.TheVariants.Card}
use Rattle.texts.specs.declared.command.{CardEntry.CardEntry, Command.Command, Settings.Settings}
use Rattle.table_service.specs.{Answering.card_over, Remarks.remark_of, Remarks.remark_under}
use Rattle.table_service.specs.{Answering.item_of, Replies.IsProblem, Replies.security}
use Rattle.table_service.specs.{Checks.doubts, Disks.IsSynced, Plans.are_confirmed, Taking.is_sent}
use Rattle.table_service.specs.{Gate.has_token, Gate.is_own, Lists.is_known, Lists.would_be_done}
use Rattle.table_service.specs.Requests.{is_post, path_of, sent_pairs}
use Rattle.table_service.specs.Undoing.{may_undo, undone_entry}
use Rattle.table_service.specs.Services.{Answers, IsKept, ServiceOf, TakesAll}
use Rattle.outbox.specs.declared.state.ItemState.TheVariants as state
use Rattle.table_service.specs.declared.plan.Problem.TheVariants as problem

-- ---- what is taken

-- a request is a form of one of the program's own pages: it names no foreign host or origin, its
-- method is POST, and it carries the token
pub record IsForm (s : ServiceOf) (request : Request (List ℕ)) : Type 0 where
  pub own : is_own s.hosts request ≡ true
  pub method : is_post request ≡ true
  pub token : has_token s.token (sent_pairs request) ≡ true

-- The form of a card is read as this one command, over what its page showed, under its own id, with
-- this remark. By this log the latest edition holds, and the form confirms all that is to be
-- confirmed of the card that its entry spells.
pub record AsksForCard (log : List Entry) (pairs : List Pair) (remark : List ℕ)
    (entries : List Entry) : Type 0 where
  pub latest : is_latest (accepted_in log) ≡ true
  pub form : CardForm
  pub sent : card_form_of pairs ≡ Ok form
  pub card : CardEntry
  pub read : IsReadAs form card
  pub entry : Entry
  pub is : card_entry form.id card remark ≡ Some entry
  pub spelled : CardEntry
  pub spells : card_in entry.text ≡ Some spelled
  pub sure : are_confirmed (value_of (codes "sure") pairs) (doubts (accepted_in log) spelled) ≡ true
  pub alone : entries ≡ entry ∷ []

-- the command that a command's form asks for, with this remark where it may have one
pub record AsksForOne (pairs : List Pair) (remark : List ℕ) (entries : List Entry) : Type 0 where
  pub id : ℕ
  pub named : form_id_of (value_of (codes "id") pairs) ≡ Some id
  pub text : List ℕ
  pub fit : IsCommandText text
  pub asks : AsksOf pairs text
  pub are : entries ≡ command_entries id (noted remark text ∷ [])

-- the commands of the lines of a form, each under an id of its own, with this remark where it may
-- have one; the first is known, or all of them would be accepted after this log
pub record AsksForAll (log : List Entry) (q : ItemsOf) (pairs : List Pair) (remark : List ℕ)
    (entries : List Entry) : Type 0 where
  pub id : ℕ
  pub named : form_id_of (value_of (codes "id") pairs) ≡ Some id
  pub texts : List (List ℕ)
  pub read : texts_in (value_of (codes "lines") pairs) ≡ Some texts
  pub done : (is_known q id || would_be_done log id texts) ≡ true
  pub are : entries ≡ command_entries id (map (noted remark) texts)

-- A form names an item that spells a card, and asks for the entry of another card, made in this way
-- of that one under an id; and that may be done with the item.
pub record AsksOver (lets : ℕ → Bool) (IsMade : ℕ → CardEntry → Entry → Type 0) (q : ItemsOf)
    (pairs : List Pair) (entries : List Entry) : Type 0 where
  pub it : ℕ × Item
  pub named : item_of q pairs ≡ Some it
  pub may : lets it.0 ≡ true
  pub card : CardEntry
  pub typed : card_in it.1.entry.text ≡ Some card
  pub id : ℕ
  pub entry : Entry
  pub is : IsMade id card entry
  pub alone : entries ≡ entry ∷ []

-- what was typed into a card that this log does not save, over what the form's page showed that
-- counts
abbrev pub AsksAgain : List Entry → ItemsOf → List Pair → List ℕ → List Entry → Type 0
AsksAgain log q pairs remark entries =
    AsksOver (may_answer log q)
    (λ id card entry. (was : List Value) × (was_of (value_of (codes "was") pairs) ≡ Some was)
    × (card_entry id (card_over card was) remark ≡ Some entry)) q pairs entries

-- what counted before a card that this log saves, over what that card left, by what the log accepts
abbrev pub AsksBack : List Entry → ItemsOf → List Pair → List ℕ → List Entry → Type 0
AsksBack log q pairs remark entries =
    AsksOver (may_undo log q)
    (λ id card entry. undone_entry (accepted_in log) id card remark ≡ Some entry) q pairs entries

-- the entries that the pairs at a path ask for, where the log is this one, with this remark; in a
-- hall of an earlier edition commands have none
abbrev pub AsksFor : List Entry → ItemsOf → List ℕ → List Pair → List ℕ → List Entry → Type 0
AsksFor log q path pairs remark entries =
    ((path ≡ codes "/card") × AsksForCard log pairs remark entries)
    ⊎ ((path ≡ codes "/command") × AsksForOne pairs (remark_under log remark) entries)
    ⊎ ((path ≡ codes "/commands") × AsksForAll log q pairs (remark_under log remark) entries)
    ⊎ ((path ≡ codes "/again") × AsksAgain log q pairs remark entries)
    ⊎ ((path ≡ codes "/undo") × AsksBack log q pairs remark entries)

-- no item is taken
abbrev pub TakesNothing : ServiceOf → ServiceOf → Type 0
TakesNothing old new = new.outbox.list.items ≡ old.outbox.list.items

-- the item of an entry's id is in the list, with its text, whatever the remarks are
abbrev pub IsSentIn : ItemsOf → Entry → Type 0
IsSentIn q entry = is_sent q entry ≡ true

-- the entries that a form asks for are taken, or were taken before; each is in the list, their
-- lines are kept, a crash leaves them, and the browser is sent to the next page
pub record IsTaken (old : ServiceOf) (request : Request (List ℕ)) (response : Response)
    (new : ServiceOf) : Type 0 where
  pub entries : List Entry
  pub list : ItemsOf
  pub form : IsForm old request
  pub asked : AsksFor old.mirroring.entries old.outbox.list (path_of request) (sent_pairs request)
      (remark_of old.name old.clock) entries
  pub taken : TakesAll old.outbox.list entries old.time list
  pub items : new.outbox.list.items ≡ list.items
  pub sent : AllByRecursion (IsSentIn new.outbox.list) entries
  pub synced : IsSynced new.file
  pub told : response.status ≡ 303

-- only what a form of one of the program's own pages asks for is taken
abbrev pub TakesForForms : Type 0
TakesForForms =
    (old new : ServiceOf) (request : Request (List ℕ)) (response : Response)
    → IsKept old.outbox → Answers old request response new
    → TakesNothing old new ⊎ IsTaken old request response new

-- ---- what is answered

-- the fields that each answer has come first
abbrev pub IsSecured : Response → Type 0
IsSecured r = (rest : List Header) × (fields_of r ≡ security ++ rest)

abbrev pub SecuresAll : Type 0
SecuresAll =
    (old new : ServiceOf) (request : Request (List ℕ)) (response : Response)
    → Answers old request response new → IsSecured response

-- a request that is not the program's own is refused with 403, and changes nothing
abbrev pub RefusesForeign : Type 0
RefusesForeign =
    (old new : ServiceOf) (request : Request (List ℕ)) (response : Response)
    → Answers old request response new → is_own old.hosts request ≡ false
    → IsProblem problem.Foreign response × (new ≡ old)

-- ---- saved is the card

-- Just before a card is accepted the attempts of its competitor were those that its page showed, in
-- a round that is opened; just after it they are those that the card leaves.
pub record IsSavedCard (before : List Command) (card : CardEntry) : Type 0 where
  pub round : Settings × Table
  pub opened : round_by before card.id ≡ Some round
  pub were : are_values card.was (values_of round.1 card.number) ≡ true
  pub after : Settings × Table
  pub leaves : round_by (before ++ Card card ∷ []) card.id ≡ Some after
  pub are : values_of after.1 card.number
      ≡ card_values (scramble_of before card.id.event card.id.round) card round.0

-- the entry at a position of a log is this one
abbrev pub StandsAt : List Entry → ℕ → Entry → Type 0
StandsAt log position entry = take (position + 1) log ≡ take position log ++ entry ∷ []

-- what is saved by a mirror's log is so in each log that begins with it
abbrev pub SavedIsTheCard : Type 0
SavedIsTheCard =
    (held log : List Entry) (entry : Entry) (card : CardEntry) (position : ℕ)
    → IsPrefix held log → card_in entry.text ≡ Some card
    → state_of held entry ≡ state.Saved position
    → StandsAt log position entry × IsSavedCard (accepted_in (take position log)) card
