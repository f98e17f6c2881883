-- What becomes of the items and of the journal comes from calls of the outbox.
use Rattle.std.proofs.Common.{◌≡◌, ◌∙◌, ◌++◌, ◌∷◌, [], inl, inr, Bool, true, false, ℕ, List, Option}
use Rattle.std.proofs.Common.{Some, ap, refl, subst, sym}
use Rattle.acceptor.specs.declared.entry.Entry.{Entry}
use Rattle.http.specs.declared.request.Request.{Request}
use Rattle.http_server.specs.declared.response.Response.{Response}
use Rattle.desk_sockets.proofs.Reaching.{both, one}
use Rattle.desk_talks.specs.Dialogues.{Reaches}
use Rattle.outbox.specs.Histories.{Answer, Call, CallLeads, Kept, NotKept, Take, World, world}
use Rattle.outbox.specs.{Items.ItemsOf, Lines.HallOf}
use Rattle.outbox.specs.Outboxes.{AnswersIf, OutboxOf, with_list}
use Rattle.table_service.specs.declared.plan.{Effect.Effect, RequestPlan.RequestPlan}
use Rattle.table_service.specs.Disks.{IsSynced, lines_in, with_kept}
use Rattle.table_service.specs.Services.{Answers, AnswersIt, AnswersKept, DoesAs, IsTakenAgain}
use Rattle.table_service.specs.Services.{KeepsList, LeavesAll, ServiceOf, TakesAgain, TakesAll}
use Rattle.table_service.specs.Services.{TakesThem, list_if, with_ids_used}
use Rattle.table_service.specs.declared.plan.Effect.TheVariants as effect

-- the items, and the lines of the journal, come from calls of the outbox
pub record IsCalled (hall : HallOf) (file : List ℕ) (old new : ServiceOf) : Type 0 where
  pub after : List ℕ
  pub there : lines_in new.file ≡ Some after
  pub synced : IsSynced new.file
  pub went : Reaches (CallLeads hall) (world old.outbox file) (world new.outbox after)

module _ (hall : HallOf) where
  -- what comes after one call
  abbrev Led : List ℕ → OutboxOf → World → Type 0
  Led file o last = Reaches (CallLeads hall) (world o file) last

  pub single : (call : Call) (old new : World) → CallLeads hall call old new
      → Reaches (CallLeads hall) old new
  single call old new leads = one (CallLeads hall) {call = call} {old = old} {new = new} leads

  called : (call : Call) (old next last : World) → CallLeads hall call old next
      → Reaches (CallLeads hall) next last → Reaches (CallLeads hall) old last
  called call old next last leads more = both (single call old next leads) more

  -- entries that are taken are calls, and more calls come after them
  takes_lead : (file : List ℕ) (o : OutboxOf) (entries : List Entry) (now : ℕ) (list : ItemsOf)
      → TakesAll o.list entries now list → (last : World) → Led file (with_list o list) last
      → Led file o last
  takes_lead file o [] now list takes last more =
      subst (λ (q : ItemsOf). Led file (with_list o q) last) takes more
  takes_lead file o (entry ∷ entries) now list takes last more =
      let rest : Led file (with_list o takes.0) last =
      takes_lead file (with_list o takes.0) entries now list takes.2 last more in
      called (Take entry now takes.1.came) (world o file) (world (with_list o takes.0) file) last
      (takes.1.fit, takes.0, takes.1.takes, refl) rest

  -- what is kept, or could not be, is one call
  pub record IsKeptBy (file : List ℕ) (o : OutboxOf) (new : ServiceOf) : Type 0 where
    pub call : Call
    pub after : List ℕ
    pub lines : lines_in new.file ≡ Some after
    pub synced : IsSynced new.file
    pub lead : CallLeads hall call (world o file) (world new.outbox after)

  keeps_lead : (file : List ℕ) (o : OutboxOf) (old new : ServiceOf) → lines_in old.file ≡ Some file
      → ((q : ItemsOf) → with_list old.outbox q ≡ with_list o q) → (kept : Bool)
      → KeepsList kept o.list old new → IsKeptBy file o new
  keeps_lead file o old new is same true keeps = record {
    call = Kept;
    after = file ++ o.list.lines;
    lines = ap (λ (s : ServiceOf). lines_in s.file) keeps.2 ∙ keeps.1.told
        ∙ ap (λ (before : Option (List ℕ)). with_kept before o.list.lines) is;
    synced = subst (λ (s : ServiceOf). IsSynced s.file) (sym keeps.2) keeps.1.synced;
    lead = ap (λ (s : ServiceOf). world s.outbox (file ++ o.list.lines)) keeps.2
        ∙ ap (λ (p : OutboxOf). world p (file ++ o.list.lines)) (same (list_if true o.list));
  }
  keeps_lead file o old new is same false keeps = record {
    call = NotKept;
    after = file;
    lines = ap (λ (s : ServiceOf). lines_in s.file) keeps.2 ∙ keeps.1.told ∙ is;
    synced = subst (λ (s : ServiceOf). IsSynced s.file) (sym keeps.2) keeps.1.synced;
    lead = ap (λ (s : ServiceOf). world s.outbox file) keeps.2
        ∙ ap (λ (p : OutboxOf). world p file) (same (list_if false o.list));
  }

  same_by : (told : Bool) (of : ℕ) (old after : OutboxOf) → AnswersIf told of old after
      → (q : ItemsOf) → with_list old q ≡ with_list after q
  same_by true of old after answers q = sym (ap (λ (o : OutboxOf). with_list o q) answers)
  same_by false of old after answers q = sym (ap (λ (o : OutboxOf). with_list o q) answers)

  pub nothing_called : (file : List ℕ) (old new : ServiceOf) → lines_in old.file ≡ Some file
      → IsSynced old.file → new.outbox ≡ old.outbox → new.file ≡ old.file
      → IsCalled hall file old new
  nothing_called file old new is synced same_outbox same_file = record {
    after = file;
    there = ap lines_in same_file ∙ is;
    synced = subst IsSynced (sym same_file) synced;
    went = record { calls = []; lead = ap (λ (o : OutboxOf). world o file) same_outbox };
  }

  answer_kept : (file : List ℕ) (old new : ServiceOf) → lines_in old.file ≡ Some file → (of : ℕ)
      → AnswersKept of old new → IsCalled hall file old new
  answer_kept file old new is of a =
      let last : IsKeptBy file a.after new =
      keeps_lead file a.after old new is (same_by a.told of old.outbox a.after a.answers.1)
      a.kept a.keeps in
      record {
        after = last.after;
        there = last.lines;
        synced = last.synced;
        went =
            called (Answer old.mirroring.entries of a.told) (world old.outbox file)
            (world a.after file) (world new.outbox last.after) (a.after, a.answers, refl)
            (single last.call (world a.after file) (world new.outbox last.after) last.lead);
      }

  answers_lead : (file : List ℕ) (old new : ServiceOf) → lines_in old.file ≡ Some file
      → IsSynced old.file → (of : ℕ) → AnswersIt of old new → IsCalled hall file old new
  answers_lead file old new is synced of (inl same) =
      nothing_called file old new is synced (ap (λ (s : ServiceOf). s.outbox) same)
      (ap (λ (s : ServiceOf). s.file) same)
  answers_lead file old new is synced of (inr a) = answer_kept file old new is of a

  module _ (file : List ℕ) (old new : ServiceOf) (is : lines_in old.file ≡ Some file)
      (synced : IsSynced old.file) where
    module _ (entries : List Entry) (list : ItemsOf)
        (takes : TakesAll old.outbox.list entries old.time list) where
      kept_lead : (kept : Bool) → KeepsList kept list old new → IsCalled hall file old new
      kept_lead kept keeps =
          let last : IsKeptBy file (with_list old.outbox list) new =
          keeps_lead file (with_list old.outbox list) old new is (λ q. refl) kept keeps in
          let end = world new.outbox last.after in
          record {
            after = last.after;
            there = last.lines;
            synced = last.synced;
            went =
                takes_lead file old.outbox entries old.time list takes end
                (single last.call (world (with_list old.outbox list) file) end last.lead);
          }

      again_kept : (of : ℕ) (plan : RequestPlan) (r : Response)
          → IsTakenAgain list of plan old r new → IsCalled hall file old new
      again_kept of plan r a =
          let mid : IsKeptBy file (with_list old.outbox list) a.kept =
          keeps_lead file (with_list old.outbox list) old a.kept is (λ q. refl) true a.keeps in
          let last : IsCalled hall mid.after (with_ids_used a.kept) new =
          answers_lead mid.after (with_ids_used a.kept) new mid.lines mid.synced of a.answers in
          let end = world new.outbox last.after in
          record {
            after = last.after;
            there = last.there;
            synced = last.synced;
            went =
                takes_lead file old.outbox entries old.time list takes end
                (called mid.call (world (with_list old.outbox list) file)
                (world a.kept.outbox mid.after) end mid.lead last.went);
          }

    none_lead : (entries : List Entry) → LeavesAll entries old new → IsCalled hall file old new
    none_lead entries (inl left) =
        nothing_called file old new is synced (ap (λ (s : ServiceOf). s.outbox) left.1)
        (ap (λ (s : ServiceOf). s.file) left.1)
    none_lead entries (inr tried) = kept_lead entries tried.0 tried.1 false tried.2

    module _ (plan : RequestPlan) (r : Response) where
      take_lead : (entries : List Entry) → TakesThem entries plan old r new
          → IsCalled hall file old new
      take_lead entries (inl none) = none_lead entries none.0
      take_lead entries (inr kept) = kept_lead entries kept.0 kept.1 true kept.2

      again_lead : (entry : Entry) (of : ℕ) → TakesAgain entry of plan old r new
          → IsCalled hall file old new
      again_lead entry of (inl none) = none_lead (entry ∷ []) none.0
      again_lead entry of (inr is) = again_kept (entry ∷ []) is.0 is.1 of plan r is.2

    does_lead : (plan : RequestPlan) (r : Response) (what : Effect) → DoesAs what plan old r new
        → IsCalled hall file old new
    does_lead plan r effect.Nothing does =
        nothing_called file old new is synced (ap (λ (s : ServiceOf). s.outbox) does.0)
        (ap (λ (s : ServiceOf). s.file) does.0)
    does_lead plan r effect.Ids does =
        nothing_called file old new is synced (ap (λ (s : ServiceOf). s.outbox) does.0)
        (ap (λ (s : ServiceOf). s.file) does.0)
    does_lead plan r (effect.Take entries) does = take_lead plan r entries.items does
    does_lead plan r (effect.Again entry of) does = again_lead plan r entry of does
    does_lead plan r (effect.Answer of) does = answers_lead file old new is synced of does.0

-- whatever is asked, the items and the lines of the journal come from calls of the outbox
pub all_called : (hall : HallOf) (file : List ℕ) (old new : ServiceOf) (request : Request (List ℕ))
    (response : Response) → Answers old request response new → lines_in old.file ≡ Some file
    → IsSynced old.file → IsCalled hall file old new
all_called hall file old new request response answers is synced =
    does_lead hall file old new is synced answers.plan response answers.plan.effect answers.does
