-- What is answered, by what is done for a request.
use Rattle.std.proofs.Common.{◌∙◌, [], ◌∷◌, inl, inr, sym, ℕ, List}
use Rattle.std.proofs.lemmas.List.{append-nil}
use Rattle.acceptor.specs.declared.entry.Entry.{Entry}
use Rattle.http.specs.declared.request.Request.{Request}
use Rattle.http1.specs.Fields.{Header}
use Rattle.http_server.specs.{declared.response.Response.Response, Response.IsResponse}
use Rattle.table_service.specs.declared.plan.{Effect.Effect, RequestPlan.RequestPlan}
use Rattle.table_service.specs.{declared.plan.PageReply.PageReply, Laws.IsSecured}
use Rattle.table_service.specs.Replies.{Writes, fields_with, security}
use Rattle.table_service.specs.Services.{Answers, DoesAs, ServiceOf, TakesAgain, TakesThem}
use Rattle.table_service.specs.declared.plan.Effect.TheVariants as effect
use Rattle.table_service.specs.declared.plan.PageReply.TheVariants as reply

secured_with : (code : ℕ) (field : Header) (content : List ℕ) (r : Response)
    → IsResponse code (fields_with field) content r → IsSecured r
secured_with code field content r is = (field ∷ [], is.headers)

secured_by : (answer : PageReply) (r : Response) → Writes answer r → IsSecured r
secured_by (reply.Text why) r is = secured_with _ _ _ r is
secured_by (reply.Html status page) r is = secured_with _ _ _ r is
secured_by reply.Style r is = secured_with _ _ _ r is
secured_by reply.Script r is = secured_with _ _ _ r is
secured_by (reply.SeeOther location) r (inl is) = secured_with _ _ _ r is
secured_by (reply.SeeOther location) r (inr is) =
    ([], is.1.headers ∙ sym (append-nil security))

module _ (plan : RequestPlan) (old new : ServiceOf) (r : Response) where
  taken : (entries : List Entry) → TakesThem entries plan old r new → IsSecured r
  taken entries (inl none) = secured_with _ _ _ r none.1
  taken entries (inr kept) = secured_by plan.reply r kept.3

  again : (entry : Entry) (of : ℕ) → TakesAgain entry of plan old r new → IsSecured r
  again entry of (inl none) = secured_with _ _ _ r none.1
  again entry of (inr is) = secured_by plan.reply r is.2.writes

  secured_as : (what : Effect) → DoesAs what plan old r new → IsSecured r
  secured_as (effect.Take entries) does = taken entries.items does
  secured_as (effect.Again entry of) does = again entry of does
  secured_as _ does = secured_by plan.reply r does.1

pub secured : (old new : ServiceOf) (request : Request (List ℕ)) (response : Response)
    → Answers old request response new → IsSecured response
secured old new request response answers =
    secured_as answers.plan old new response answers.plan.effect answers.does
