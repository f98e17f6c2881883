-- What becomes of the items, and what is answered, by what is done for a request.
use Rattle.std.proofs.Common.{◌≡◌, ◌∙◌, ◌≤◌, ◌∷◌, [], inl, inr, Bool, true, false, ℕ, List, ap}
use Rattle.std.proofs.Common.{arith, length, refl, subst, sym, take}
use Rattle.std.proofs.Math.Seq.{take-length}
use Rattle.acceptor.specs.declared.entry.Entry.{Entry}
use Rattle.http.specs.declared.request.Request.{Request}
use Rattle.http_server.specs.declared.response.Response.{Response}
use Rattle.outbox.specs.declared.item.Item.{Item}
use Rattle.outbox.specs.Items.{ItemsOf, all_kept, items_of, taken_back, with_answer}
use Rattle.outbox.specs.Outboxes.{AnswersIf, OutboxOf, with_list}
use Rattle.table_service.specs.declared.plan.{Effect.Effect, RequestPlan.RequestPlan}
use Rattle.table_service.{specs.Replies.Writes, proofs.TakenOnes.stays_kept}
use Rattle.table_service.specs.Services.{Answers, AnswersIt, DoesAs, IsKept, KeepsList, Plans}
use Rattle.table_service.specs.Services.{ServiceOf, StaysKept, TakesAgain, TakesAgainFor, TakesAll}
use Rattle.table_service.specs.Services.{TakesFor, TakesThem, with_ids_used}

-- ---- what is taken, and taken back

-- what was in the journal is there, whatever was taken
pub all_stay : (entries : List Entry) (old new : ItemsOf) (now : ℕ)
    → old.kept ≤ length old.items → TakesAll old entries now new → StaysKept old new
all_stay [] old new now low takes = subst (λ (q : ItemsOf). StaysKept old q) (sym takes) (refl, low)
all_stay (entry ∷ entries) old new now low takes =
    let one = stays_kept old takes.0 entry now low takes.1.came takes.1.takes in
    let more = all_stay entries takes.0 new now one.1 takes.2 in (more.0 ∙ one.0, more.1)

pub is_low : (o : OutboxOf) → IsKept o → o.list.kept ≤ length o.list.items
is_low o kept = let same : o.list.kept ≡ length o.list.items = kept.0 in omega (arith, same)

-- where all is in the journal, nothing is taken back
pub same_back : (o : OutboxOf) → IsKept o → taken_back o.list ≡ o.list
same_back o kept =
    ap (λ (xs : List (ℕ × Item)). items_of xs o.list.kept [] o.list.answered)
    (ap (λ (k : ℕ). take k o.list.items) kept.0 ∙ take-length o.list.items)
    ∙ ap (λ (ls : List ℕ). items_of o.list.items o.list.kept ls o.list.answered) (sym kept.1)

-- what was taken is taken back
pub all_back : (o : OutboxOf) → IsKept o → (entries : List Entry) (now : ℕ) (list : ItemsOf)
    → TakesAll o.list entries now list → taken_back list ≡ o.list
all_back o kept entries now list takes =
    (all_stay entries o.list list now (is_low o kept) takes).0 ∙ same_back o kept

-- all that is in the journal is kept
pub kept_all : (o : OutboxOf) → IsKept (with_list o (all_kept o.list))
kept_all o = (refl, refl)

-- ---- what is answered of an item

-- the items stay, whether an item is answered or not, and whether that was kept or not
pub same_items : (of : ℕ) (old new : ServiceOf) → IsKept old.outbox → AnswersIt of old new
    → new.outbox.list.items ≡ old.outbox.list.items
same_items of old new kept (inl same) = ap (λ (s : ServiceOf). s.outbox.list.items) same
same_items of old new kept (inr is) =
    by is.kept is.keeps ∙ by_told is.told is.answers.1
  where
    by_told : (told : Bool) → AnswersIf told of old.outbox is.after
        → is.after.list.items ≡ old.outbox.list.items
    by_told true answers = ap (λ (o : OutboxOf). o.list.items) answers
    by_told false answers = ap (λ (o : OutboxOf). o.list.items) answers

    count : (told : Bool) → AnswersIf told of old.outbox is.after
        → is.after.list.kept ≡ length is.after.list.items
    count true answers =
        ap (λ (o : OutboxOf). o.list.kept) answers ∙ kept.0
        ∙ sym (ap (λ (o : OutboxOf). length o.list.items) answers)
    count false answers =
        ap (λ (o : OutboxOf). o.list.kept) answers ∙ kept.0
        ∙ sym (ap (λ (o : OutboxOf). length o.list.items) answers)

    by : (done : Bool) → KeepsList done is.after.list old new
        → new.outbox.list.items ≡ is.after.list.items
    by true keeps = ap (λ (s : ServiceOf). s.outbox.list.items) keeps.2
    by false keeps =
        ap (λ (s : ServiceOf). s.outbox.list.items) keeps.2
        ∙ ap (λ (k : ℕ). take k is.after.list.items) (count is.told is.answers.1)
        ∙ take-length is.after.list.items

-- ---- what is done

-- an entry is taken once more, and the item that it stands for is answered
pub again_taken : (entries : List Entry) (entry : Entry) (of : ℕ) (old : ServiceOf)
    (before : Response) (kept used new : ServiceOf) (response : Response) (done : Bool)
    → entries ≡ entry ∷ [] → done ≡ true → TakesFor done entries old before kept response
    → used ≡ with_ids_used kept → AnswersIt of used new
    → TakesAgainFor entry of old before new response
again_taken entries entry of old before kept used new response done one is takes uses answers =
    inr (
      kept,
      subst (λ (es : List Entry). TakesFor true es old before kept response) one
          (subst (λ (b : Bool). TakesFor b entries old before kept response) is takes),
      subst (λ (s : ServiceOf). AnswersIt of s new) uses answers,
    )

pub again_left : (entries : List Entry) (entry : Entry) (of : ℕ) (old : ServiceOf)
    (before : Response) (new : ServiceOf) (response : Response) (done : Bool)
    → entries ≡ entry ∷ [] → done ≡ false → TakesFor done entries old before new response
    → TakesAgainFor entry of old before new response
again_left entries entry of old before new response done one is takes =
    inl (subst (λ (es : List Entry). TakesFor false es old before new response) one
    (subst (λ (b : Bool). TakesFor b entries old before new response) is takes))

module _ (plan : RequestPlan) (old : ServiceOf) (before response : Response) (new : ServiceOf)
    (writes : Writes plan.reply before) where
  pub taken_does : (done : Bool) (entries : List Entry)
      → TakesFor done entries old before new response → TakesThem entries plan old response new
  taken_does true entries takes =
      inr (
        takes.0,
        takes.1,
        takes.2,
        subst (λ (r : Response). Writes plan.reply r) (sym takes.3) writes,
      )
  taken_does false entries none = inl none

  pub again_does : (entry : Entry) (of : ℕ) → TakesAgainFor entry of old before new response
      → TakesAgain entry of plan old response new
  again_does entry of (inl none) = inl none
  again_does entry of (inr is) =
      inr (
        is.1.0,
        is.1.1,
        record {
          kept = is.0;
          keeps = is.1.2;
          answers = is.2;
          writes = subst (λ (r : Response). Writes plan.reply r) (sym is.1.3) writes;
        },
      )

pub answers_as : (plan : RequestPlan) (old : ServiceOf) (request : Request (List ℕ))
    (response : Response)
    (new : ServiceOf) (what : Effect) → Plans old request plan → plan.effect ≡ what
    → DoesAs what plan old response new → Answers old request response new
answers_as plan old request response new what planned is does = record {
  plan = plan;
  planned = planned;
  does = subst (λ (e : Effect). DoesAs e plan old response new) (sym is) does;
}
