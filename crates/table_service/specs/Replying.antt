-- What is answered for a request, and what changes (the project's own).
use Rattle.std.specs.Prelude.{◌≡◌, ℕ, List, Option, None, Some}
use Rattle.table_service.specs.declared.plan.{Effect.Effect, Problem.Problem, PageReply.PageReply}
use Rattle.table_service.specs.declared.plan.{RequestPlan.RequestPlan, PageStatus.PageStatus}
use Rattle.table_service.specs.declared.plan.Effect.TheVariants as effect
use Rattle.table_service.specs.declared.plan.Problem.TheVariants as problem
use Rattle.table_service.specs.declared.plan.PageReply.TheVariants as reply
use Rattle.table_service.specs.declared.plan.PageStatus.TheVariants as shown

-- no page, and why
abbrev pub refuses : Problem → RequestPlan
refuses why = record { reply = reply.Text why; effect = effect.Nothing }

abbrev pub shows : PageReply → RequestPlan
shows answer = record { reply = answer; effect = effect.Nothing }

abbrev pub IsHtml : PageStatus → List ℕ → PageReply → Type 0
IsHtml status text (reply.Html sent page) = (sent ≡ status) × (page.items ≡ text)
IsHtml status text _ = ⊥

-- a page with this text, which uses the ids of its forms
abbrev pub ShowsPage : PageStatus → List ℕ → RequestPlan → Type 0
ShowsPage status text plan = IsHtml status text plan.reply × (plan.effect ≡ effect.Ids)

abbrev pub ShowsAs : PageStatus → Option (List ℕ) → RequestPlan → Type 0
ShowsAs status None plan = plan ≡ refuses problem.NotFound
ShowsAs status (Some text) plan = ShowsPage status text plan

-- a page, if there is one
abbrev pub ShowsIf : Option (List ℕ) → RequestPlan → Type 0
ShowsIf page plan = ShowsAs shown.Asked page plan

abbrev pub GoesTo : List ℕ → PageReply → Type 0
GoesTo location (reply.SeeOther at) = at.items ≡ location
GoesTo location _ = ⊥

-- the browser is sent on to another page
abbrev pub Sends : List ℕ → Effect → RequestPlan → Type 0
Sends location what plan = GoesTo location plan.reply × (plan.effect ≡ what)
