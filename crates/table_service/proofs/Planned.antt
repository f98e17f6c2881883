-- What is planned for requests, by cases: entries are taken for forms alone that ask for them.
use Rattle.std.proofs.Common.{◌≡◌, ◌∙◌, inl, inr, Bool, true, false, ℕ, List, [], ◌∷◌, ap, bytes_eq}
use Rattle.std.proofs.Common.{codes, subst, sym, Option, None, Some, Result, Ok, Err, refl, get_or}
use Rattle.std.proofs.Common.{is_some, length, map, slice_get, ◌++◌, ◌&&◌, ◌||◌, if◌then◌else◌}
use Rattle.std.proofs.lemmas.{List.Folds.list_all-append, Slice.Eq.bytes_eq-Decides}
use Rattle.acceptor.specs.declared.entry.Entry.{Entry}
use Rattle.attempts.specs.declared.Value.{Value}
use Rattle.http.specs.declared.request.Request.{Request}
use Rattle.card_forms.specs.declared.{cards.CardForm.CardForm, faults.CardFormFault.CardFormFault}
use Rattle.card_forms.specs.{declared.pairs.Pair.Pair, Pairs.value_of, Readings.IsReadAs}
use Rattle.card_forms.specs.Cards.{card_form_of, form_id_of}
use Rattle.card_forms.specs.Entries.{card_entry, card_in, command_entries, entry_with}
use Rattle.card_forms.specs.Remarks.{is_same_but_remark, noted}
use Rattle.table_entry_views.specs.declared.notes.CardNote.{CardNote}
use Rattle.form_data.specs.Bodies.{parts_of}
use Rattle.command_lists.specs.Lists.{texts_in}
use Rattle.outbox.specs.{declared.item.Item.Item, Items.ItemsOf, Items.item_in, Outboxes.may_answer}
use Rattle.table_views.specs.{declared.around.PageContext.PageContext, Editions.is_latest}
use Rattle.table_views.specs.Logs.{accepted_in}
use Rattle.texts.specs.{declared.command.CardEntry.CardEntry, Fields.enters_later, Fields.was_of}
use Rattle.table_service.specs.declared.plan.{Effect.Effect, RequestPlan.RequestPlan}
use Rattle.table_service.specs.declared.plan.{Problem.Problem, PageReply.PageReply}
use Rattle.table_service.specs.declared.{plan.PageStatus.PageStatus, reading.Resource.Resource}
use Rattle.table_service.specs.Answering.{PlansAgain, PlansAgainCard, PlansAgainItem, PlansAnswered}
use Rattle.table_service.specs.Answering.{PlansItem, PlansItemIf, PlansLeaving, PlansOver}
use Rattle.table_service.specs.Answering.{again_entry, card_over, item_of, less_words}
use Rattle.table_service.specs.{Asked.asked_at, Imports.content_of, Taking.sent_as}
use Rattle.table_service.specs.Checks.{all_doubts, doubts, file_doubts}
use Rattle.table_service.specs.{Gate.has_token, Gate.is_own, Lists.would_be_done, Sent.PlansFormAt}
use Rattle.table_service.specs.Imports.{PlansBody, PlansCarried, PlansPartsIf, boundary_in}
use Rattle.table_service.specs.Laws.{AsksAgain, AsksBack, AsksFor, AsksForCard, AsksOver, IsForm}
use Rattle.table_service.specs.Lists.{LooksAt, PlansAsked, PlansLines, PlansListOf, is_known}
use Rattle.table_service.specs.Plans.{HoldsCard, PlansCardAs, PlansCardEntry, PlansCardIf}
use Rattle.table_service.specs.Plans.{PlansCommand, PlansFit, PlansForm, PlansSpelled, ShowsView}
use Rattle.table_service.specs.Plans.{are_confirmed, cards_place, is_confirmed, is_entered}
use Rattle.table_service.specs.Plans.{page_after, remark_in}
use Rattle.table_service.specs.{Remarks.remark_of, Remarks.remark_under, Sent.PlansPosted}
use Rattle.table_service.specs.Replying.{GoesTo, ShowsAs, refuses, shows}
use Rattle.table_service.specs.Requests.{is_post, is_read, path_of, query_of, sent_pairs}
use Rattle.table_service.specs.Sent.{PlansAt, PlansAtAnswers, PlansAtLast, PlansAtLines, PlansBy}
use Rattle.table_service.specs.Services.{IsAround, Plans, PlansIf, PlansWith, ServiceOf}
use Rattle.table_service.specs.Undoing.{PlansUndo, PlansUndoCard, PlansUndoItem, may_undo}
use Rattle.table_service.specs.Undoing.{undone_entry, untyped_words}
use Rattle.table_service.specs.Taking.{AreTaken, PlansOther, PlansRoom, both_or, has_room, is_sent}
use Rattle.table_service.specs.Taking.{last_id, other_by, other_in, place_after, place_with}
use Rattle.wcif.specs.Lines as printed
use Rattle.table_service.specs.declared.plan.Effect.TheVariants as effect
use Rattle.table_service.specs.declared.plan.Problem.TheVariants as problem
use Rattle.table_service.specs.declared.plan.PageReply.TheVariants as reply
use Rattle.table_service.specs.declared.reading.Resource.TheVariants as asked

-- the browser is sent on
abbrev pub GoesOn : PageReply → Type 0
GoesOn answer = (location : List ℕ) × GoesTo location answer

-- an id is not known that is known neither with the text of an entry nor with another one
unknown_by : (item : Option Item) (entry : Entry) → sent_as item entry ≡ false
    → both_or (other_by item entry) entry.text None ≡ None → is_some item ≡ false
unknown_by None entry unsent others = refl
unknown_by (Some item) entry unsent others =
    by (is_same_but_remark item.entry.text entry.text) unsent others
  where
    by : (same : Bool) → same ≡ false
        → both_or (if same then None else Some item.entry.text) entry.text None ≡ None
        → true ≡ false
    by true same others = same
    by false same others = absurd (cc)

-- all of two lists of notes are confirmed where those of each are
pub both_confirmed : (sure : List ℕ) (notes more : List CardNote)
    → are_confirmed sure (notes ++ more) ≡ true
    → (are_confirmed sure notes ≡ true) × (are_confirmed sure more ≡ true)
both_confirmed sure notes more are =
    by (are_confirmed sure notes) (are_confirmed sure more)
    (sym (list_all-append (is_confirmed sure) notes more) ∙ are)
  where
    by : (these those : Bool) → (these && those) ≡ true → (these ≡ true) × (those ≡ true)
    by true those are = (refl, are)
    by false those are = absurd (cc)

is_unknown : (q : ItemsOf) (entry : Entry) → is_sent q entry ≡ false
    → other_in q (entry ∷ []) ≡ None → is_some (item_in q entry.id) ≡ false
is_unknown q entry unsent others = unknown_by (item_in q entry.id) entry unsent others

-- entries that are taken are what the pairs at a path ask for, with this remark of a card, the
-- browser is sent on, and so much holds besides
abbrev pub FoundBy : Type 0 → List Entry → ItemsOf → List ℕ → List Pair → List ℕ → PageReply
    → Effect → Type 0
FoundBy More log q path pairs remark answer (effect.Take them) =
    More × AsksFor log q path pairs remark them.items × GoesOn answer
FoundBy More log q path pairs remark answer (effect.Again entry of) =
    More × AsksFor log q path pairs remark (entry ∷ []) × GoesOn answer
FoundBy More log q path pairs remark answer _ = Unit {0}

module _ (More : Type 0) (log : List Entry) (q : ItemsOf) (path : List ℕ) (pairs : List Pair)
    (remark : List ℕ) (plan : RequestPlan) where
  abbrev Found : Type 0
  Found = FoundBy More log q path pairs remark plan.reply plan.effect

  refused : (why : Problem) → plan ≡ refuses why → Found
  refused why is =
      subst (λ (p : RequestPlan). FoundBy More log q path pairs remark p.reply p.effect) (sym is) tt

  shown : (answer : PageReply) → plan ≡ shows answer → Found
  shown answer is =
      subst (λ (p : RequestPlan). FoundBy More log q path pairs remark p.reply p.effect) (sym is) tt

  nothing : plan.effect ≡ effect.Nothing → Found
  nothing is = subst (λ (e : Effect). FoundBy More log q path pairs remark plan.reply e) (sym is) tt

  ids : plan.effect ≡ effect.Ids → Found
  ids is = subst (λ (e : Effect). FoundBy More log q path pairs remark plan.reply e) (sym is) tt

  page : (status : PageStatus) (is : Option (List ℕ)) → ShowsAs status is plan → Found
  page status None is = refused problem.NotFound is
  page status (Some text) is = ids is.1

  view : (around : PageContext) (title : List ℕ) (competition : Option (List ℕ))
      (what : Option Resource) → ShowsView q around title competition what plan → Found
  view around title competition None is = refused problem.NotFound is
  view around title competition (Some asked.Style) is = shown reply.Style is
  view around title competition (Some asked.Script) is = shown reply.Script is
  view around title competition (Some (asked.Page what)) is = page _ is.0 is.2

  -- looking at lines, or at a competition's file, accepts nothing
  looked : (around : PageContext) (back lines : List ℕ) → LooksAt around back lines plan → Found
  looked around back lines (inl unfit) = ids unfit.1.1
  looked around back lines (inr is) = ids is.2.shows.1

  file : (around : PageContext) (parts : List (List ℕ × List ℕ)) (carries : Bool)
      → PlansCarried around parts carries plan → Found
  file around parts false plans = refused problem.Foreign plans
  file around parts true (inl looks) =
      looked around (codes "/import") (printed.lines looks.0) looks.2
  file around parts true (inr faults) = ids faults.3.1

  parts_if : (around : PageContext) (parts : Option (List (List ℕ × List ℕ)))
      → PlansPartsIf around parts plan → Found
  parts_if around None plans = refused problem.BadForm plans
  parts_if around (Some parts) plans =
      file around parts (bytes_eq (content_of (codes "token") parts) around.token.now) plans

  body : (around : PageContext) (bytes : List ℕ) (boundary : Option (List ℕ))
      → PlansBody around bytes boundary plan → Found
  body around bytes None plans = refused problem.BadForm plans
  body around bytes (Some boundary) plans = parts_if around (parts_of boundary bytes) plans

  module _ (more : More) (around : PageContext) (same : around.mirror.now ≡ log)
      (says : around.remark.now ≡ remark) where
    -- what holds beside the mirror's log holds beside this log
    by_log : (P : List Entry → Type 0) → P around.mirror.now → P log
    by_log P holds = subst P same holds

    remark_is : remark_in around ≡ remark_under log remark
    remark_is =
        ap (λ (es : List Entry). remark_under es around.remark.now) same
        ∙ ap (remark_under log) says

    taken_as : (entries : List Entry) → AsksFor log q path pairs remark entries → (what : Effect)
        → AreTaken entries what → GoesOn plan.reply
        → FoundBy More log q path pairs remark plan.reply what
    taken_as entries asks (effect.Take them) are on =
        (more, subst (λ (es : List Entry). AsksFor log q path pairs remark es) (sym are) asks, on)
    taken_as entries asks _ are on = absurd are

    module _ (place : List ℕ) (entries : List Entry)
        (asks : AsksFor log q path pairs remark entries) where
      room : (has : Bool) → PlansRoom has place entries plan → Found
      room false plans = refused problem.Busy plans
      room true plans =
          taken_as entries asks plan.effect plans.takes
          (place_after place (last_id entries), plans.goes)

      other : (known : Option (List ℕ × List ℕ))
          → PlansOther known q around place entries plan → Found
      other (Some both) plans = ids plans.1
      other None plans = room (has_room q (length entries)) plans

      taken : PlansOther (other_in q entries) q around place entries plan → Found
      taken plans = other (other_in q entries) plans

    -- ---- a card

    held : (form : CardForm) (notes : List CardNote) (status : PageStatus)
        → HoldsCard q around form notes status plan → Found
    held form notes status holds = page status holds.page holds.shows

    module _ (competition : Option (List ℕ)) (at : path ≡ codes "/card")
        (latest : is_latest (accepted_in around.mirror.now) ≡ true) (form : CardForm)
        (sent : card_form_of pairs ≡ Ok form) where
      abbrev notes_of : CardEntry → List CardNote
      notes_of card = all_doubts competition (accepted_in around.mirror.now) card

      module _ (card : CardEntry) (read : IsReadAs form card) (entry : Entry)
          (is : card_entry form.id card around.remark.now ≡ Some entry) (it : CardEntry)
          (spells : card_in entry.text ≡ Some it) where
        card_asked : are_confirmed (value_of (codes "sure") pairs) (notes_of it) ≡ true
            → AsksForCard log pairs remark (entry ∷ [])
        card_asked sure =
            record {
              latest = by_log (λ (es : List Entry). is_latest (accepted_in es) ≡ true) latest;
              form = form;
              sent = sent;
              card = card;
              read = read;
              entry = entry;
              is = subst (λ (r : List ℕ). card_entry form.id card r ≡ Some entry) says is;
              spelled = it;
              spells = spells;
              sure = by_log
                  (λ (es : List Entry).
                  are_confirmed (value_of (codes "sure") pairs) (doubts (accepted_in es) it) ≡ true)
                  (both_confirmed (value_of (codes "sure") pairs)
                  (doubts (accepted_in around.mirror.now) it)
                  (file_doubts competition (accepted_in around.mirror.now) it) sure).0;
              alone = refl;
            }

        card_taken : is_sent q entry ≡ false
            → is_entered q entry.id (value_of (codes "sure") pairs) (notes_of it) ≡ true
            → (known : Option (List ℕ × List ℕ)) → other_in q (entry ∷ []) ≡ known
            → PlansOther known q around (cards_place form.round) (entry ∷ []) plan → Found
        card_taken unsent entered (Some both) others plans = ids plans.1
        card_taken unsent entered None others plans =
            room (cards_place form.round) (entry ∷ []) (inl (
              at,
              card_asked (subst
                  (λ (b : Bool).
                  (b || are_confirmed (value_of (codes "sure") pairs) (notes_of it)) ≡ true)
                  (is_unknown q entry unsent others) entered),
            ))
            (has_room q 1) plans

        card_entered : is_sent q entry ≡ false → (entered : Bool)
            → is_entered q entry.id (value_of (codes "sure") pairs) (notes_of it) ≡ entered
            → PlansCardEntry q around form (notes_of it) entry entered plan → Found
        card_entered unsent true entered plans =
            card_taken unsent entered (other_in q (entry ∷ [])) refl plans
        card_entered unsent false entered plans = held form _ _ plans

        card_fit : (known : Bool) → is_sent q entry ≡ known
            → PlansFit known q around competition form (value_of (codes "sure") pairs) entry it plan
            → Found
        card_fit true unsent plans = nothing plans.1
        card_fit false unsent plans =
            card_entered unsent
            (is_entered q entry.id (value_of (codes "sure") pairs) (notes_of it)) refl plans

      card_spelled : (card : CardEntry) → IsReadAs form card → (entry : Entry)
          → card_entry form.id card around.remark.now ≡ Some entry → (it : Option CardEntry)
          → card_in entry.text ≡ it
          → PlansSpelled q around competition form (value_of (codes "sure") pairs) entry it plan
          → Found
      card_spelled card read entry is None spells plans = refused problem.BadForm plans
      card_spelled card read entry is (Some it) spells plans =
          card_fit card read entry is it spells (is_sent q entry) refl plans

      card_as : (card : CardEntry) → IsReadAs form card → (entry : Option Entry)
          → card_entry form.id card around.remark.now ≡ entry
          → PlansCardAs q around competition form (value_of (codes "sure") pairs) entry plan → Found
      card_as card read None is plans = held form _ _ plans
      card_as card read (Some entry) is plans =
          card_spelled card read entry is (card_in entry.text) refl plans

    card_form : (competition : Option (List ℕ)) → path ≡ codes "/card"
        → is_latest (accepted_in around.mirror.now) ≡ true
        → (r : Result CardForm CardFormFault) → card_form_of pairs ≡ r
        → PlansForm q around competition (value_of (codes "sure") pairs) r plan → Found
    card_form competition at latest (Err why) is plans = refused problem.BadForm plans
    card_form competition at latest (Ok form) is (inl reads) =
        card_as competition at latest form is reads.entry reads.read
        (card_entry form.id reads.entry around.remark.now) refl reads.plans
    card_form competition at latest (Ok form) is (inr unread) = held form _ _ unread.2

    card_if : (competition : Option (List ℕ)) → path ≡ codes "/card" → (latest : Bool)
        → is_latest (accepted_in around.mirror.now) ≡ latest
        → PlansCardIf latest around competition q pairs plan → Found
    card_if competition at false latest plans = ids plans.1
    card_if competition at true latest plans =
        card_form competition at latest (card_form_of pairs) refl plans

    -- ---- a command, and several

    command : path ≡ codes "/command" → PlansCommand around q pairs plan → Found
    command at (inl lacks) = refused problem.BadForm lacks.1
    command at (inr (inl wrong)) = ids wrong.2.1
    command at (inr (inr asks)) =
        taken (page_after pairs) (entry_with asks.id (noted (remark_in around) asks.text) ∷ [])
        (inr (inl (
          at,
          record {
            id = asks.id;
            named = asks.named;
            text = asks.text;
            fit = asks.fit;
            asks = asks.asks;
            are = ap (λ (r : List ℕ). entry_with asks.id (noted r asks.text) ∷ []) remark_is;
          },
        )))
        asks.plans

    module _ (at : path ≡ codes "/commands") (id : ℕ)
        (named : form_id_of (value_of (codes "id") pairs) ≡ Some id) where
      texts_asked : (texts : List (List ℕ))
          → texts_in (value_of (codes "lines") pairs) ≡ Some texts → (done : Bool)
          → (is_known q id || would_be_done around.mirror.now id texts) ≡ done
          → PlansAsked around q pairs id texts done plan → Found
      texts_asked texts are true done plans =
          taken (page_after pairs) (command_entries id (map (noted (remark_in around)) texts))
          (inr (inr (inl (
            at,
            record {
              id = id;
              named = named;
              texts = texts;
              read = are;
              done = by_log
                  (λ (es : List Entry). (is_known q id || would_be_done es id texts) ≡ true) done;
              are = ap (λ (r : List ℕ). command_entries id (map (noted r) texts)) remark_is;
            },
          ))))
          plans
      texts_asked texts are false done plans = ids plans.1

      lines_asked : PlansLines around q pairs id plan → Found
      lines_asked (inl unfit) = ids unfit.1.1
      lines_asked (inr asks) =
          texts_asked asks.texts asks.are
          (is_known q id || would_be_done around.mirror.now id asks.texts) refl asks.plans

    list : path ≡ codes "/commands" → (id : Option ℕ)
        → form_id_of (value_of (codes "id") pairs) ≡ id → PlansListOf around q pairs id plan → Found
    list at None is plans = refused problem.BadForm plans
    list at (Some id) is plans = lines_asked at id is plans

    -- ---- an item that a form names, and a card that stands for it

    -- an item that stays as it is
    leaving : (item : Item) (what : Effect) → PlansLeaving item what plan
        → FoundBy More log q path pairs remark plan.reply what → Found
    leaving item what plans found =
        subst (λ (e : Effect). FoundBy More log q path pairs remark plan.reply e) (sym plans.1)
        found

    module _ (may : ℕ → Bool) (Does : ℕ → Item → RequestPlan → Type 0)
        (does : (it : ℕ × Item) → item_of q pairs ≡ Some it → may it.0 ≡ true
        → Does it.0 it.1 plan → Found) where
      item_if : (it : ℕ × Item) → item_of q pairs ≡ Some it → (b : Bool) → may it.0 ≡ b
          → PlansItemIf b Does it.0 it.1 plan → Found
      item_if it named false so plans = leaving it.1 effect.Nothing plans tt
      item_if it named true so plans = does it named so plans

      item : (it : Option (ℕ × Item)) → item_of q pairs ≡ it → PlansItem may Does it plan → Found
      item None named plans = refused problem.BadForm plans
      item (Some it) named plans = item_if it named (may it.0) refl plans

    module _ (may : ℕ → Bool) (IsMade : ℕ → CardEntry → Entry → Type 0)
        (asked : (e : Entry) → AsksOver may IsMade q pairs (e ∷ [])
        → AsksFor log q path pairs remark (e ∷ [])) (it : ℕ × Item)
        (named : item_of q pairs ≡ Some it) (so : may it.0 ≡ true) where
      over : (why : List ℕ) (has : Bool) (card : CardEntry)
          → card_in it.1.entry.text ≡ Some card → (id : ℕ) (entry : Option Entry)
          → ((e : Entry) → entry ≡ Some e → IsMade id card e)
          → PlansOver why has around it.0 card.id entry plan → Found
      over why has card typed id None made plans = ids plans.1
      over why false card typed id (Some entry) made plans = refused problem.Busy plans
      over why true card typed id (Some entry) made plans =
          subst (λ (e : Effect). FoundBy More log q path pairs remark plan.reply e) (sym plans.1) (
            more,
            asked entry record {
              it = it;
              named = named;
              may = so;
              card = card;
              typed = typed;
              id = id;
              entry = entry;
              is = made entry refl;
              alone = refl;
            },
            (place_with (cards_place card.id) entry.id, plans.0),
          )

    -- ---- what was typed, over what counts now

    again_asked : path ≡ codes "/again" → (e : Entry)
        → AsksAgain around.mirror.now q pairs around.remark.now (e ∷ [])
        → AsksFor log q path pairs remark (e ∷ [])
    again_asked at e asks =
        inr (inr (inr (inl (
          at,
          by_log (λ (es : List Entry). AsksAgain es q pairs remark (e ∷ []))
              (subst (λ (r : List ℕ). AsksAgain around.mirror.now q pairs r (e ∷ [])) says asks),
        ))))

    entry_of : (enters : Bool) (id : ℕ) (card : CardEntry) (was : List Value) (entry : Entry)
        → again_entry enters id card around.remark.now was ≡ Some entry
        → card_entry id (card_over card was) around.remark.now ≡ Some entry
    entry_of false id card was entry is = absurd (cc)
    entry_of true id card was entry is = is

    again_card : path ≡ codes "/again" → (it : ℕ × Item) → item_of q pairs ≡ Some it
        → may_answer around.mirror.now q it.0 ≡ true → (was : Option (List Value))
        → was_of (value_of (codes "was") pairs) ≡ was → (card : Option CardEntry)
        → card_in it.1.entry.text ≡ card → PlansAgainCard around q it.0 was card plan → Found
    again_card at it named so None shows card typed plans = refused problem.BadForm plans
    again_card at it named so (Some was) shows None typed plans = refused problem.BadForm plans
    again_card at it named so (Some was) shows (Some card) typed plans =
        let enters = enters_later (length was) card.now in
        let id = get_or around.ids.now 0 0 in
        over (may_answer around.mirror.now q)
        (λ id card entry. (was : List Value) × (was_of (value_of (codes "was") pairs) ≡ Some was)
        × (card_entry id (card_over card was) around.remark.now ≡ Some entry)) (again_asked at) it
        named so less_words (has_room q 1) card typed id
        (again_entry enters id card around.remark.now was)
        (λ e is. (was, shows, entry_of enters id card was e is)) plans

    again : path ≡ codes "/again" → PlansAgain around q pairs plan → Found
    again at plans =
        item (may_answer around.mirror.now q) (PlansAgainItem around q pairs)
        (λ it named so planned.
        again_card at it named so (was_of (value_of (codes "was") pairs)) refl
        (card_in it.1.entry.text) refl planned) (item_of q pairs) refl plans

    -- ---- leaving it

    left : PlansAnswered around q pairs plan → Found
    left plans =
        item (may_answer around.mirror.now q)
        (λ of item left. PlansLeaving item (effect.Answer of) left)
        (λ it named so planned. leaving it.1 (effect.Answer it.0) planned tt) (item_of q pairs) refl
        plans

    -- ---- taking a card back

    back_asked : path ≡ codes "/undo" → (e : Entry)
        → AsksBack around.mirror.now q pairs around.remark.now (e ∷ [])
        → AsksFor log q path pairs remark (e ∷ [])
    back_asked at e asks =
        inr (inr (inr (inr (
          at,
          by_log (λ (es : List Entry). AsksBack es q pairs remark (e ∷ []))
              (subst (λ (r : List ℕ). AsksBack around.mirror.now q pairs r (e ∷ [])) says asks),
        ))))

    back_card : path ≡ codes "/undo" → (it : ℕ × Item) → item_of q pairs ≡ Some it
        → may_undo around.mirror.now q it.0 ≡ true → (card : Option CardEntry)
        → card_in it.1.entry.text ≡ card → PlansUndoCard around q it.0 card plan → Found
    back_card at it named so None typed plans = refused problem.BadForm plans
    back_card at it named so (Some card) typed plans =
        let id = get_or around.ids.now 0 0 in
        let accepted = accepted_in around.mirror.now in
        over (may_undo around.mirror.now q)
        (λ id card entry. undone_entry accepted id card around.remark.now ≡ Some entry)
        (back_asked at) it named so untyped_words (has_room q 1) card typed id
        (undone_entry accepted id card around.remark.now) (λ e is. is) plans

    back : path ≡ codes "/undo" → PlansUndo around q pairs plan → Found
    back at plans =
        item (may_undo around.mirror.now q) (PlansUndoItem around q)
        (λ it named so planned. back_card at it named so (card_in it.1.entry.text) refl planned)
        (item_of q pairs) refl plans

    -- ---- by the path

    sent_last : (leaves undoes : Bool) → bytes_eq path (codes "/undo") ≡ undoes
        → PlansAtLast around q pairs leaves undoes plan → Found
    sent_last true undoes at plans = left plans
    sent_last false true at plans =
        back ((bytes_eq-Decides path (codes "/undo")).0 at) plans
    sent_last false false at plans = refused problem.Method plans

    sent_answers : (takes : Bool) → bytes_eq path (codes "/again") ≡ takes
        → PlansAtAnswers around q path pairs takes plan → Found
    sent_answers true at plans =
        again ((bytes_eq-Decides path (codes "/again")).0 at) plans
    sent_answers false at plans =
        sent_last (bytes_eq path (codes "/answered")) (bytes_eq path (codes "/undo")) refl plans

    sent_lines : (commands lines : Bool) → bytes_eq path (codes "/commands") ≡ commands
        → PlansAtLines around q path pairs commands lines plan → Found
    sent_lines true lines at plans =
        list ((bytes_eq-Decides path (codes "/commands")).0 at)
        (form_id_of (value_of (codes "id") pairs)) refl plans
    sent_lines false true at plans =
        looked around (page_after pairs) (value_of (codes "lines") pairs) plans
    sent_lines false false at plans =
        sent_answers (bytes_eq path (codes "/again")) refl plans

    sent : (competition : Option (List ℕ)) (card one : Bool) → bytes_eq path (codes "/card") ≡ card
        → bytes_eq path (codes "/command") ≡ one
        → PlansAt around competition q path pairs card one plan → Found
    sent competition true one at other plans =
        card_if competition ((bytes_eq-Decides path (codes "/card")).0 at)
        (is_latest (accepted_in around.mirror.now)) refl plans
    sent competition false true other at plans =
        command ((bytes_eq-Decides path (codes "/command")).0 at) plans
    sent competition false false other another plans =
        sent_lines (bytes_eq path (codes "/commands")) (bytes_eq path (codes "/lines")) refl plans

-- ---- a request

module _ (s : ServiceOf) (request : Request (List ℕ)) (plan : RequestPlan) where
  abbrev remark : List ℕ
  remark = remark_of s.name s.clock

  abbrev FoundFor : Type 0
  FoundFor =
      FoundBy (IsForm s request) s.mirroring.entries s.outbox.list (path_of request)
      (sent_pairs request) remark plan.reply plan.effect

  module _ (own : is_own s.hosts request ≡ true) where
    module _ (set : List ℕ) (around : PageContext) (is : IsAround s set request around) where
      posted : is_post request ≡ true → (carries : Bool)
          → has_token around.token.now (sent_pairs request) ≡ carries
          → PlansPosted around s.competition s.outbox.list (path_of request) (sent_pairs request)
          carries plan → FoundFor
      posted post false not-so plans =
          refused (IsForm s request) s.mirroring.entries s.outbox.list (path_of request)
          (sent_pairs request) remark plan problem.Foreign plans
      posted post true so plans =
          sent (IsForm s request) s.mirroring.entries s.outbox.list (path_of request)
          (sent_pairs request) remark plan
          record {
            own = own;
            method = post;
            token = subst (λ (t : List ℕ). has_token t (sent_pairs request) ≡ true) is.token so;
          } around is.mirror is.remark s.competition (bytes_eq (path_of request) (codes "/card"))
          (bytes_eq (path_of request) (codes "/command")) refl refl plans

      by_form : is_post request ≡ true → (imports : Bool)
          → PlansFormAt around s.competition s.outbox.list request imports plan → FoundFor
      by_form post true plans =
          body (IsForm s request) s.mirroring.entries s.outbox.list (path_of request)
          (sent_pairs request) remark plan around request.body (boundary_in request) plans
      by_form post false plans =
          posted post (has_token around.token.now (sent_pairs request)) refl plans

      by_method : (read post : Bool) → is_post request ≡ post
          → PlansBy around s.title s.competition s.outbox.list request read post plan → FoundFor
      by_method true post so plans =
          view (IsForm s request) s.mirroring.entries s.outbox.list (path_of request)
          (sent_pairs request) remark plan around s.title s.competition
          (asked_at (path_of request) (query_of request)) plans
      by_method false true so plans =
          by_form so (bytes_eq (path_of request) (codes "/import")) plans
      by_method false false so plans =
          refused (IsForm s request) s.mirroring.entries s.outbox.list (path_of request)
          (sent_pairs request) remark plan problem.Method plans

    by_ids : (set : Option (List ℕ)) → PlansWith s request set plan → FoundFor
    by_ids None plans =
        refused (IsForm s request) s.mirroring.entries s.outbox.list (path_of request)
        (sent_pairs request) remark plan problem.Busy plans
    by_ids (Some set) plans =
        by_method set plans.around plans.is (is_read request) (is_post request) refl plans.plans

  by_own : (own : Bool) → is_own s.hosts request ≡ own → PlansIf s request own plan → FoundFor
  by_own false so plans =
      refused (IsForm s request) s.mirroring.entries s.outbox.list (path_of request)
      (sent_pairs request) remark plan problem.Foreign plans
  by_own true so plans = by_ids so (slice_get s.ids 0) plans

  -- entries are taken for a form alone that asks for them
  pub found : Plans s request plan → FoundFor
  found plans = by_own (is_own s.hosts request) refl plans
