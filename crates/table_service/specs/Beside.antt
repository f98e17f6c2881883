-- What depends on the competition's file (the project's own).
use Rattle.std.specs.Prelude.{◌≡◌, ◌⊎◌, ℕ, List, Option, None, Some, Ok, true, false, bytes_eq}
use Rattle.std.specs.Prelude.{codes}
use Rattle.acceptor.specs.declared.entry.Entry.{Entry}
use Rattle.http.specs.declared.request.Request.{Request}
use Rattle.http_server.specs.declared.response.Response.{Response}
use Rattle.card_forms.specs.{declared.cards.CardForm.CardForm, Cards.card_form_of, Pairs.value_of}
use Rattle.card_forms.specs.{Entries.card_entry, Entries.card_in, Readings.IsReadAs}
use Rattle.table_views.specs.{declared.around.PageContext.PageContext, Logs.accepted_in}
use Rattle.texts.specs.declared.command.CardEntry.{CardEntry}
use Rattle.table_service.specs.{declared.plan.RequestPlan.RequestPlan, Checks.all_doubts}
use Rattle.table_service.specs.{Plans.HoldsCard, Plans.are_confirmed, Replies.Writes}
use Rattle.table_service.specs.Requests.{is_read, path_of, sent_pairs}
use Rattle.table_service.specs.Services.{Answers, IsAround, ServiceOf, with_ids_used}
use Rattle.table_service.specs.declared.plan.PageStatus.TheVariants as shown

-- the same service with another file, or with none
abbrev pub with_file : Option (List ℕ) → ServiceOf → ServiceOf
with_file file s = record s { competition = file }

-- what comes of a form, unless it is that of a card, and what is answered to it, is the same
-- whatever the file is
abbrev pub FileIsBeside : Type 0
FileIsBeside =
    (old new : ServiceOf) (file : Option (List ℕ)) (request : Request (List ℕ))
    (response : Response)
    → is_read request ≡ false → bytes_eq (path_of request) (codes "/card") ≡ false
    → Answers old request response new
    → Answers (with_file file old) request response (with_file file new)

-- nothing is taken: nothing comes but that the ids of a page are used
abbrev pub OnlyShows : ServiceOf → ServiceOf → Type 0
OnlyShows old new = (new ≡ old) ⊎ (new ≡ with_ids_used old)

-- The form of a card is read, and its entry spells this card. Of all that is to be confirmed of the
-- card, by the log and by the file, something is not confirmed: the card's page shows it, beside
-- what was typed.
pub record AsksOfCard (s : ServiceOf) (request : Request (List ℕ)) (plan : RequestPlan) : Type 0
  where
    pub path : bytes_eq (path_of request) (codes "/card") ≡ true
    pub ids : List ℕ
    pub around : PageContext
    pub is : IsAround s ids request around
    pub form : CardForm
    pub sent : card_form_of (sent_pairs request) ≡ Ok form
    pub typed : CardEntry
    pub read : IsReadAs form typed
    pub entry : Entry
    pub enters : card_entry form.id typed around.remark.now ≡ Some entry
    pub card : CardEntry
    pub spells : card_in entry.text ≡ Some card
    pub unsure : are_confirmed (value_of (codes "sure") (sent_pairs request))
        (all_doubts s.competition (accepted_in around.mirror.now) card) ≡ false
    pub holds : HoldsCard s.outbox.list around form
        (all_doubts s.competition (accepted_in around.mirror.now) card) shown.Asked plan

-- nothing is taken, and the card is shown with what is to be confirmed first
abbrev pub AsksFirst : ServiceOf → Request (List ℕ) → Response → ServiceOf → Type 0
AsksFirst old request response new =
    (plan : RequestPlan) × AsksOfCard old request plan × Writes plan.reply response
    × OnlyShows old new

-- The file can only ask: what comes of a form, and what is answered to it, is the same without the
-- file, or nothing is taken and the card is shown with what is to be confirmed first. So nothing is
-- taken that would not be taken without the file; and where all that is shown is confirmed, the
-- file changes nothing.
abbrev pub FileOnlyAsks : Type 0
FileOnlyAsks =
    (old new : ServiceOf) (request : Request (List ℕ)) (response : Response)
    → is_read request ≡ false → Answers old request response new
    → Answers (with_file None old) request response (with_file None new)
    ⊎ AsksFirst old request response new

-- of a request that only reads nothing comes, but that the ids of a page are used
abbrev pub ReadsOnlyShow : Type 0
ReadsOnlyShow =
    (old new : ServiceOf) (request : Request (List ℕ)) (response : Response)
    → is_read request ≡ true → Answers old request response new → OnlyShows old new
