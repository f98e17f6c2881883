-- What is taken for a request, and that nothing else is.
use Rattle.std.proofs.Common.{◌≡◌, ◌∙◌, ◌⊎◌, ◌∷◌, [], inl, inr, Bool, true, ℕ, List, ap, subst, sym}
use Rattle.acceptor.specs.declared.entry.Entry.{Entry}
use Rattle.http.specs.declared.request.Request.{Request}
use Rattle.http_server.specs.declared.response.Response.{Response}
use Rattle.outbox.specs.{Items.ItemsOf, Outboxes.with_list}
use Rattle.table_service.specs.declared.plan.{Effect.Effect, RequestPlan.RequestPlan}
use Rattle.table_service.specs.{declared.plan.PageReply.PageReply, Disks.IsSynced, Replies.Writes}
use Rattle.table_service.specs.Laws.{AsksFor, IsForm, IsTaken, TakesNothing}
use Rattle.table_service.{specs.Remarks.remark_of, proofs.Planned.FoundBy, proofs.SentOnes.sent_in}
use Rattle.table_service.{specs.Requests.path_of, specs.Requests.sent_pairs, proofs.Planned.GoesOn}
use Rattle.table_service.specs.Services.{Answers, AnswersIt, IsTakenAgain, KeepsList, with_ids_used}
use Rattle.table_service.specs.Services.{DoesAs, IsKept, LeavesAll, ServiceOf, TakesAll, TakesThem}
use Rattle.table_service.proofs.{Planned.found, Served.all_back, Served.kept_all, Served.same_items}
use Rattle.table_service.specs.declared.plan.Effect.TheVariants as effect
use Rattle.table_service.specs.declared.plan.PageReply.TheVariants as reply

sent_on : (answer : PageReply) (r : Response) → GoesOn answer → Writes answer r → r.status ≡ 303
sent_on (reply.SeeOther location) r on (inl is) = is.status
sent_on (reply.SeeOther location) r on (inr is) = is.1.status
sent_on (reply.Text why) r on is = absurd on.1
sent_on (reply.Html status page) r on is = absurd on.1
sent_on reply.Style r on is = absurd on.1
sent_on reply.Script r on is = absurd on.1

-- what is kept a crash leaves
synced_by : (kept : Bool) (list : ItemsOf) (old new : ServiceOf) → KeepsList kept list old new
    → IsSynced new.file
synced_by kept list old new keeps =
    subst (λ (s : ServiceOf). IsSynced s.file) (sym keeps.2) keeps.1.synced

synced_after : (of : ℕ) (old new : ServiceOf) → IsSynced old.file → AnswersIt of old new
    → IsSynced new.file
synced_after of old new synced (inl same) =
    subst (λ (s : ServiceOf). IsSynced s.file) (sym same) synced
synced_after of old new synced (inr is) = synced_by is.kept is.after.list old new is.keeps

module _ (old new : ServiceOf) (request : Request (List ℕ)) (response : Response)
    (kept : IsKept old.outbox) (plan : RequestPlan) where
  abbrev Comes : Type 0
  Comes = TakesNothing old new ⊎ IsTaken old request response new

  abbrev FoundAs : Effect → Type 0
  FoundAs what =
      FoundBy (IsForm old request) old.mirroring.entries old.outbox.list (path_of request)
      (sent_pairs request) (remark_of old.name old.clock) plan.reply what

  none : (entries : List Entry) → LeavesAll entries old new → TakesNothing old new
  none entries (inl left) = ap (λ (s : ServiceOf). s.outbox.list.items) left.1
  none entries (inr (list, takes, keeps)) =
      ap (λ (s : ServiceOf). s.outbox.list.items) keeps.2
      ∙ ap (λ (q : ItemsOf). q.items) (all_back old.outbox kept entries old.time list takes)

  module _ (entries : List Entry)
      (asks : AsksFor old.mirroring.entries old.outbox.list (path_of request)
      (sent_pairs request) (remark_of old.name old.clock) entries)
      (form : IsForm old request) (on : GoesOn plan.reply) where
    taken : TakesThem entries plan old response new → Comes
    taken (inl is) = inl (none entries is.0)
    taken (inr (list, takes, keeps, writes)) =
        let items = ap (λ (s : ServiceOf). s.outbox.list.items) keeps.2 in
        inr record {
          entries = entries;
          list = list;
          form = form;
          asked = asks;
          taken = takes;
          items = items;
          sent = sent_in entries old.outbox.list list old.time new.outbox.list takes items;
          synced = synced_by true list old new keeps;
          told = sent_on plan.reply response on writes;
        }

    again : (list : ItemsOf) → TakesAll old.outbox.list entries old.time list → (of : ℕ)
        → IsTakenAgain list of plan old response new → Comes
    again list takes of is =
        let all : IsKept is.kept.outbox =
        subst (λ (s : ServiceOf). IsKept s.outbox) (sym is.keeps.2)
        (kept_all (with_list old.outbox list)) in
        let items =
        same_items of (with_ids_used is.kept) new all is.answers
        ∙ ap (λ (s : ServiceOf). s.outbox.list.items) is.keeps.2 in
        inr record {
          entries = entries;
          list = list;
          form = form;
          asked = asks;
          taken = takes;
          items = items;
          sent = sent_in entries old.outbox.list list old.time new.outbox.list takes items;
          synced = synced_after of (with_ids_used is.kept) new
              (synced_by true list old is.kept is.keeps) is.answers;
          told = sent_on plan.reply response on is.writes;
        }

  comes : (what : Effect) → FoundAs what → DoesAs what plan old response new → Comes
  comes effect.Nothing tells does = inl (ap (λ (s : ServiceOf). s.outbox.list.items) does.0)
  comes effect.Ids tells does = inl (ap (λ (s : ServiceOf). s.outbox.list.items) does.0)
  comes (effect.Take entries) tells does = taken entries.items tells.1 tells.0 tells.2 does
  comes (effect.Again entry of) tells (inl is) = inl (none (entry ∷ []) is.0)
  comes (effect.Again entry of) tells (inr is) =
      again (entry ∷ []) tells.1 tells.0 tells.2 is.0 is.1 of is.2
  comes (effect.Answer of) tells does = inl (same_items of old new kept does.0)

-- nothing is taken but what a form asks for
pub taken_for_forms : (old new : ServiceOf) (request : Request (List ℕ)) (response : Response)
    → IsKept old.outbox → Answers old request response new
    → TakesNothing old new ⊎ IsTaken old request response new
taken_for_forms old new request response kept answers =
    comes old new request response kept answers.plan answers.plan.effect
    (found old request answers.plan answers.planned) answers.does
