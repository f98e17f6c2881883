-- What is answered, and what comes of it, beside the competition's file.
use Rattle.std.proofs.Common.{◌≡◌, ◌∙◌, ◌⊎◌, ◌||◌, ◌++◌, inl, inr, ℕ, Bool, true, false, List, []}
use Rattle.std.proofs.Common.{◌∷◌, Option, None, Some, Result, Ok, Err, ap, sym, subst, refl, codes}
use Rattle.std.proofs.Common.{bytes_eq, is_some, slice_get}
use Rattle.std.proofs.lemmas.{Bool.false≢true, List.append-nil}
use Rattle.acceptor.specs.declared.entry.Entry.{Entry}
use Rattle.http.specs.declared.request.Request.{Request}
use Rattle.http_server.specs.declared.response.Response.{Response}
use Rattle.card_forms.specs.declared.{cards.CardForm.CardForm, faults.CardFormFault.CardFormFault}
use Rattle.card_forms.specs.{Cards.card_form_of, Pairs.value_of, Readings.IsReadAs}
use Rattle.card_forms.specs.Entries.{card_entry, card_in}
use Rattle.outbox.specs.Items.{ItemsOf, item_in}
use Rattle.table_entry_views.specs.declared.notes.CardNote.{CardNote}
use Rattle.table_views.specs.{declared.around.PageContext.PageContext, Editions.is_latest}
use Rattle.table_views.specs.Logs.{accepted_in}
use Rattle.texts.specs.declared.command.CardEntry.{CardEntry}
use Rattle.table_service.specs.declared.plan.Effect.{Effect}
use Rattle.table_service.specs.declared.plan.Effect.TheVariants as effect
use Rattle.table_service.specs.declared.plan.PageStatus.{PageStatus, TheVariants.Asked}
use Rattle.table_service.specs.declared.plan.Problem.{Problem}
use Rattle.table_service.specs.declared.plan.Problem.TheVariants as problem
use Rattle.table_service.specs.declared.plan.RequestPlan.{RequestPlan}
use Rattle.table_service.specs.declared.reading.Resource.{Resource}
use Rattle.table_service.specs.declared.reading.Resource.TheVariants as asked
use Rattle.table_service.specs.{Asked.asked_at, Checks.all_doubts, Checks.doubts}
use Rattle.table_service.specs.Checks.{file_doubts}
use Rattle.table_service.specs.Beside.{AsksFirst, AsksOfCard, FileIsBeside, FileOnlyAsks}
use Rattle.table_service.specs.Beside.{OnlyShows, ReadsOnlyShow, with_file}
use Rattle.table_service.specs.{Gate.has_token, Gate.is_own, Replies.Writes}
use Rattle.table_service.specs.Plans.{PlansCard, PlansCardAs, PlansCardEntry, PlansCardIf, PlansFit}
use Rattle.table_service.specs.Plans.{PlansForm, PlansSpelled, ShowsView, are_confirmed, is_entered}
use Rattle.table_service.specs.{Replying.ShowsAs, Replying.refuses, Taking.is_sent}
use Rattle.table_service.specs.Requests.{is_post, is_read, path_of, query_of, sent_pairs}
use Rattle.table_service.specs.Sent.{PlansAt, PlansBy, PlansFormAt, PlansPosted}
use Rattle.table_service.specs.Services.{Answers, AnswersIt, DoesAs, IsAround, KeepsList, LeavesAll}
use Rattle.table_service.specs.Services.{Plans, PlansAround, PlansIf, PlansWith, ServiceOf}
use Rattle.table_service.specs.Services.{TakesAgain, TakesNone, TakesThem, with_ids_used}
use Rattle.table_service.proofs.Planned.{both_confirmed}

-- ---- the same is planned, unless it is the form of a card

module _ (file : Option (List ℕ)) (s : ServiceOf) (request : Request (List ℕ)) where
  around_beside : (set : List ℕ) (around : PageContext) → IsAround s set request around
      → IsAround (with_file file s) set request around
  around_beside set around is = record {
    mirror = is.mirror;
    desks = is.desks;
    token = is.token;
    proposals = is.proposals;
    ids = is.ids;
    remark = is.remark;
    recent = is.recent;
    time = is.time;
    waits = is.waits;
  }

  module _ (plan : RequestPlan) (Other : Type 0)
      (by_card : (set : List ℕ) (around : PageContext) → IsAround s set request around
      → bytes_eq (path_of request) (codes "/card") ≡ true
      → PlansCard around s.competition s.outbox.list (sent_pairs request) plan
      → PlansCard around file s.outbox.list (sent_pairs request) plan ⊎ Other) where
    module _ (set : List ℕ) (around : PageContext) (is : IsAround s set request around) where
      at_path : (card one : Bool) → bytes_eq (path_of request) (codes "/card") ≡ card
          → PlansAt around s.competition s.outbox.list (path_of request) (sent_pairs request) card
          one plan
          → PlansAt around file s.outbox.list (path_of request) (sent_pairs request) card one plan
          ⊎ Other
      at_path true one at plans = by_card set around is at plans
      at_path false true at plans = inl plans
      at_path false false at plans = inl plans

      posted : (carries : Bool)
          → PlansPosted around s.competition s.outbox.list (path_of request) (sent_pairs request)
          carries plan
          → PlansPosted around file s.outbox.list (path_of request) (sent_pairs request) carries
          plan ⊎ Other
      posted false plans = inl plans
      posted true plans =
          at_path (bytes_eq (path_of request) (codes "/card"))
          (bytes_eq (path_of request) (codes "/command")) refl plans

      form_at : (imports : Bool)
          → PlansFormAt around s.competition s.outbox.list request imports plan
          → PlansFormAt around file s.outbox.list request imports plan ⊎ Other
      form_at true plans = inl plans
      form_at false plans =
          posted (has_token around.token.now (sent_pairs request)) plans

      by_method : (read post : Bool) → read ≡ false
          → PlansBy around s.title s.competition s.outbox.list request read post plan
          → PlansBy around s.title file s.outbox.list request read post plan ⊎ Other
      by_method true post more plans = absurd (false≢true (sym more))
      by_method false true more plans =
          form_at (bytes_eq (path_of request) (codes "/import")) plans
      by_method false false more plans = inl plans

      by_around : PlansBy around s.title file s.outbox.list request (is_read request)
          (is_post request) plan ⊎ Other
          → PlansAround (with_file file s) set request plan ⊎ Other
      by_around (inl plans) =
          inl (record { around = around; is = around_beside set around is; plans = plans })
      by_around (inr other) = inr other

    by_ids : is_read request ≡ false → (set : Option (List ℕ)) → PlansWith s request set plan
        → PlansWith (with_file file s) request set plan ⊎ Other
    by_ids more None plans = inl plans
    by_ids more (Some set) plans =
        by_around set plans.around plans.is
        (by_method set plans.around plans.is (is_read request) (is_post request) more plans.plans)

    by_own : is_read request ≡ false → (own : Bool) → PlansIf s request own plan
        → PlansIf (with_file file s) request own plan ⊎ Other
    by_own more false plans = inl plans
    by_own more true plans = by_ids more (slice_get s.ids 0) plans

    planned : is_read request ≡ false → Plans s request plan
        → Plans (with_file file s) request plan ⊎ Other
    planned more plans = by_own more (is_own s.hosts request) plans

-- ---- the form of a card is planned without the file, or asked about

module _ (s : ServiceOf) (request : Request (List ℕ)) (plan : RequestPlan)
    (at : bytes_eq (path_of request) (codes "/card") ≡ true) (set : List ℕ) (around : PageContext)
    (is : IsAround s set request around) where
  abbrev sure : List ℕ
  sure = value_of (codes "sure") (sent_pairs request)

  abbrev notes_of : Option (List ℕ) → CardEntry → List CardNote
  notes_of file card = all_doubts file (accepted_in around.mirror.now) card

  module _ (form : CardForm) (sent : card_form_of (sent_pairs request) ≡ Ok form) where
    module _ (typed : CardEntry) (read : IsReadAs form typed) (entry : Entry)
        (enters : card_entry form.id typed around.remark.now ≡ Some entry) (card : CardEntry)
        (spells : card_in entry.text ≡ Some card) where
      entered_without : (known : Bool)
          → (known || are_confirmed sure (notes_of s.competition card)) ≡ true
          → (known || are_confirmed sure (notes_of None card)) ≡ true
      entered_without true are = refl
      entered_without false are =
          ap (are_confirmed sure) (append-nil (doubts (accepted_in around.mirror.now) card))
          ∙ (both_confirmed sure (doubts (accepted_in around.mirror.now) card)
          (file_doubts s.competition (accepted_in around.mirror.now) card) are).0

      unconfirmed : (known : Bool)
          → (known || are_confirmed sure (notes_of s.competition card)) ≡ false
          → are_confirmed sure (notes_of s.competition card) ≡ false
      unconfirmed true are = absurd (false≢true (sym are))
      unconfirmed false are = are

      noted : (entered : Bool)
          → is_entered s.outbox.list entry.id sure (notes_of s.competition card) ≡ entered
          → PlansCardEntry s.outbox.list around form (notes_of s.competition card) entry entered plan
          → PlansCardEntry s.outbox.list around form (notes_of None card) entry
          (is_entered s.outbox.list entry.id sure (notes_of None card)) plan
          ⊎ AsksOfCard s request plan
      noted true are plans =
          inl (subst
          (λ (b : Bool).
          PlansCardEntry s.outbox.list around form (notes_of None card) entry b plan)
          (sym (entered_without (is_some (item_in s.outbox.list entry.id)) are)) plans)
      noted false are plans =
          inr (record {
            path = at;
            ids = set;
            around = around;
            is = is;
            form = form;
            sent = sent;
            typed = typed;
            read = read;
            entry = entry;
            enters = enters;
            card = card;
            spells = spells;
            unsure = unconfirmed (is_some (item_in s.outbox.list entry.id)) are;
            holds = plans;
          })

      fit : (known : Bool)
          → PlansFit known s.outbox.list around s.competition form sure entry card plan
          → PlansFit known s.outbox.list around None form sure entry card plan
          ⊎ AsksOfCard s request plan
      fit true plans = inl plans
      fit false plans =
          noted (is_entered s.outbox.list entry.id sure (notes_of s.competition card)) refl plans

    spelled : (typed : CardEntry) → IsReadAs form typed → (entry : Entry)
        → card_entry form.id typed around.remark.now ≡ Some entry → (card : Option CardEntry)
        → card_in entry.text ≡ card
        → PlansSpelled s.outbox.list around s.competition form sure entry card plan
        → PlansSpelled s.outbox.list around None form sure entry card plan
        ⊎ AsksOfCard s request plan
    spelled typed read entry enters None spells plans = inl plans
    spelled typed read entry enters (Some card) spells plans =
        fit typed read entry enters card spells (is_sent s.outbox.list entry) plans

    entered : (typed : CardEntry) → IsReadAs form typed → (entry : Option Entry)
        → card_entry form.id typed around.remark.now ≡ entry
        → PlansCardAs s.outbox.list around s.competition form sure entry plan
        → PlansCardAs s.outbox.list around None form sure entry plan ⊎ AsksOfCard s request plan
    entered typed read None enters plans = inl plans
    entered typed read (Some entry) enters plans =
        spelled typed read entry enters (card_in entry.text) refl plans

    reads : (typed : CardEntry) → IsReadAs form typed
        → PlansCardAs s.outbox.list around None form sure
        (card_entry form.id typed around.remark.now) plan ⊎ AsksOfCard s request plan
        → PlansForm s.outbox.list around None sure (Ok form) plan ⊎ AsksOfCard s request plan
    reads typed read (inl plans) = inl (inl (record { entry = typed; read = read; plans = plans }))
    reads typed read (inr asks) = inr asks

  by_form : (r : Result CardForm CardFormFault) → card_form_of (sent_pairs request) ≡ r
      → PlansForm s.outbox.list around s.competition sure r plan
      → PlansForm s.outbox.list around None sure r plan ⊎ AsksOfCard s request plan
  by_form (Err why) sent plans = inl plans
  by_form (Ok form) sent (inl card) =
      reads form sent card.entry card.read
      (entered form sent card.entry card.read (card_entry form.id card.entry around.remark.now) refl
      card.plans)
  by_form (Ok form) sent (inr unread) = inl (inr unread)

  by_edition : (latest : Bool)
      → PlansCardIf latest around s.competition s.outbox.list (sent_pairs request) plan
      → PlansCardIf latest around None s.outbox.list (sent_pairs request) plan
      ⊎ AsksOfCard s request plan
  by_edition false plans = inl plans
  by_edition true plans = by_form (card_form_of (sent_pairs request)) refl plans

-- ---- the same is done

module _ (file : Option (List ℕ)) where
  keeps_beside : (kept : Bool) (list : ItemsOf) (old new : ServiceOf) → KeepsList kept list old new
      → KeepsList kept list (with_file file old) (with_file file new)
  keeps_beside kept list old new keeps = (keeps.0, keeps.1, ap (with_file file) keeps.2)

  leaves_beside : (entries : List Entry) (old new : ServiceOf) → LeavesAll entries old new
      → LeavesAll entries (with_file file old) (with_file file new)
  leaves_beside entries old new (inl cannot) = inl (cannot.0, ap (with_file file) cannot.1)
  leaves_beside entries old new (inr back) =
      inr (back.0, back.1, keeps_beside false back.0 old new back.2)

  none_beside : (entries : List Entry) (old : ServiceOf) (response : Response) (new : ServiceOf)
      → TakesNone entries old response new
      → TakesNone entries (with_file file old) response (with_file file new)
  none_beside entries old response new none = (leaves_beside entries old new none.0, none.1)

  them_beside : (entries : List Entry) (plan : RequestPlan) (old : ServiceOf) (response : Response)
      (new : ServiceOf) → TakesThem entries plan old response new
      → TakesThem entries plan (with_file file old) response (with_file file new)
  them_beside entries plan old response new (inl none) =
      inl (none_beside entries old response new none)
  them_beside entries plan old response new (inr taken) =
      inr (taken.0, taken.1, keeps_beside true taken.0 old new taken.2, taken.3)

  it_beside : (of : ℕ) (old new : ServiceOf) → AnswersIt of old new
      → AnswersIt of (with_file file old) (with_file file new)
  it_beside of old new (inl same) = inl (ap (with_file file) same)
  it_beside of old new (inr answered) = inr (record {
    told = answered.told;
    after = answered.after;
    answers = answered.answers;
    kept = answered.kept;
    keeps = keeps_beside answered.kept answered.after.list old new answered.keeps;
  })

  again_beside : (entry : Entry) (of : ℕ) (plan : RequestPlan) (old : ServiceOf)
      (response : Response) (new : ServiceOf) → TakesAgain entry of plan old response new
      → TakesAgain entry of plan (with_file file old) response (with_file file new)
  again_beside entry of plan old response new (inl none) =
      inl (none_beside (entry ∷ []) old response new none)
  again_beside entry of plan old response new (inr taken) = inr (
    taken.0,
    taken.1,
    record {
      kept = with_file file taken.2.kept;
      keeps = keeps_beside true taken.0 old taken.2.kept taken.2.keeps;
      answers = it_beside of (with_ids_used taken.2.kept) new taken.2.answers;
      writes = taken.2.writes;
    },
  )

  does_beside : (what : Effect) (plan : RequestPlan) (old : ServiceOf) (response : Response)
      (new : ServiceOf) → DoesAs what plan old response new
      → DoesAs what plan (with_file file old) response (with_file file new)
  does_beside effect.Nothing plan old response new does = (ap (with_file file) does.0, does.1)
  does_beside effect.Ids plan old response new does = (ap (with_file file) does.0, does.1)
  does_beside (effect.Take entries) plan old response new does =
      them_beside entries.items plan old response new does
  does_beside (effect.Again entry of) plan old response new does =
      again_beside entry of plan old response new does
  does_beside (effect.Answer of) plan old response new does =
      (it_beside of old new does.0, does.1)

pub beside : FileIsBeside
beside old new file request response more other answered =
    same
    (planned file old request answered.plan ⊥
    (λ set around is at plans. absurd (false≢true (sym other ∙ at))) more answered.planned)
  where
    same : Plans (with_file file old) request answered.plan ⊎ ⊥
        → Answers (with_file file old) request response (with_file file new)
    same (inl plans) = record {
      plan = answered.plan;
      planned = plans;
      does = does_beside file answered.plan.effect answered.plan old response new answered.does;
    }
    same (inr none) = absurd none

-- ---- reads

abbrev Shows : RequestPlan → Type 0
Shows plan = (plan.effect ≡ effect.Nothing) ⊎ (plan.effect ≡ effect.Ids)

refused : (plan : RequestPlan) (why : Problem) → plan ≡ refuses why → Shows plan
refused plan why is = inl (ap (λ (p : RequestPlan). p.effect) is)

page_shows : (plan : RequestPlan) (status : PageStatus) (page : Option (List ℕ))
    → ShowsAs status page plan → Shows plan
page_shows plan status None is = refused plan problem.NotFound is
page_shows plan status (Some text) is = inr is.1

view_shows : (plan : RequestPlan) (q : ItemsOf) (around : PageContext) (title : List ℕ)
    (competition : Option (List ℕ)) (what : Option Resource)
    → ShowsView q around title competition what plan → Shows plan
view_shows plan q around title competition None is = refused plan problem.NotFound is
view_shows plan q around title competition (Some asked.Style) is =
    inl (ap (λ (p : RequestPlan). p.effect) is)
view_shows plan q around title competition (Some asked.Script) is =
    inl (ap (λ (p : RequestPlan). p.effect) is)
view_shows plan q around title competition (Some (asked.Page what)) is =
    page_shows plan Asked is.0 is.2

module _ (s : ServiceOf) (request : Request (List ℕ)) (plan : RequestPlan) where
  method_shows : (around : PageContext) (read post : Bool) → read ≡ true
      → PlansBy around s.title s.competition s.outbox.list request read post plan → Shows plan
  method_shows around true post reads plans =
      view_shows plan s.outbox.list around s.title s.competition
      (asked_at (path_of request) (query_of request)) plans
  method_shows around false post reads plans = absurd (false≢true reads)

  ids_shows : is_read request ≡ true → (set : Option (List ℕ)) → PlansWith s request set plan
      → Shows plan
  ids_shows reads None plans = refused plan problem.Busy plans
  ids_shows reads (Some set) plans =
      method_shows plans.around (is_read request) (is_post request) reads plans.plans

  own_shows : is_read request ≡ true → (own : Bool) → PlansIf s request own plan → Shows plan
  own_shows reads false plans = refused plan problem.Foreign plans
  own_shows reads true plans = ids_shows reads (slice_get s.ids 0) plans

-- what only shows a page takes nothing
shown : (plan : RequestPlan) (old : ServiceOf) (response : Response) (new : ServiceOf)
    → DoesAs plan.effect plan old response new → Shows plan
    → Writes plan.reply response × OnlyShows old new
shown plan old response new does (inl nothing) =
    let done = subst (λ (e : Effect). DoesAs e plan old response new) nothing does in
    (done.1, inl done.0)
shown plan old response new does (inr ids) =
    let done = subst (λ (e : Effect). DoesAs e plan old response new) ids does in
    (done.1, inr done.0)

pub only_show : ReadsOnlyShow
only_show old new request response reads answered =
    (shown answered.plan old response new answered.does
    (own_shows old request answered.plan reads (is_own old.hosts request) answered.planned)).1

-- ---- the file can only ask

pub only_asks : FileOnlyAsks
only_asks old new request response more answered =
    so
    (planned None old request answered.plan (AsksOfCard old request answered.plan)
    (λ set around is at plans. by_edition old request answered.plan at set around is
    (is_latest (accepted_in around.mirror.now)) plans) more answered.planned)
  where
    so : Plans (with_file None old) request answered.plan ⊎ AsksOfCard old request answered.plan
        → Answers (with_file None old) request response (with_file None new)
        ⊎ AsksFirst old request response new
    so (inl plans) =
        inl (record {
          plan = answered.plan;
          planned = plans;
          does = does_beside None answered.plan.effect answered.plan old response new answered.does;
        })
    so (inr asks) =
        let done =
        shown answered.plan old response new answered.does
        (page_shows answered.plan Asked asks.holds.page asks.holds.shows) in
        inr (answered.plan, asks, done.0, done.1)
