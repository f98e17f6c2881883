-- What is to be done for any request of one of the program's own pages.
use Rattle.std.specs.Prelude.{◌≡◌, ℕ, Bool, true, false, bytes_eq, codes, List, Option}
use Rattle.http.specs.declared.request.Request.{Request}
use Rattle.card_forms.specs.{declared.pairs.Pair.Pair, Pairs.value_of}
use Rattle.outbox.specs.Items.{ItemsOf}
use Rattle.table_views.specs.declared.around.PageContext.{PageContext}
use Rattle.table_service.specs.{declared.plan.RequestPlan.RequestPlan, Gate.has_token}
use Rattle.table_service.specs.Answering.{PlansAgain, PlansAnswered}
use Rattle.table_service.specs.{Imports.PlansImport, Replying.refuses, Undoing.PlansUndo}
use Rattle.table_service.specs.Lists.{LooksAt, PlansList}
use Rattle.table_service.specs.Plans.{PlansCard, PlansCommand, PlansRead, page_after}
use Rattle.table_service.specs.Requests.{is_post, is_read, path_of, sent_pairs}
use Rattle.table_service.specs.declared.plan.Problem.TheVariants as problem

-- by whether the path is that of leaving an item as it is, and that of taking a card back
abbrev pub PlansAtLast : PageContext → ItemsOf → List Pair → Bool → Bool → RequestPlan → Type 0
PlansAtLast around q pairs true undoes plan = PlansAnswered around q pairs plan
PlansAtLast around q pairs false true plan = PlansUndo around q pairs plan
PlansAtLast around q pairs false false plan = plan ≡ refuses problem.Method

-- by whether the path is that of taking what was typed over what counts now
abbrev pub PlansAtAnswers : PageContext → ItemsOf → List ℕ → List Pair → Bool → RequestPlan → Type 0
PlansAtAnswers around q path pairs true plan = PlansAgain around q pairs plan
PlansAtAnswers around q path pairs false plan =
    PlansAtLast around q pairs (bytes_eq path (codes "/answered")) (bytes_eq path (codes "/undo"))
    plan

-- the pairs of an answer that are sent to a path
abbrev pub PlansSentAnswers : PageContext → ItemsOf → List ℕ → List Pair → RequestPlan → Type 0
PlansSentAnswers around q path pairs plan =
    PlansAtAnswers around q path pairs (bytes_eq path (codes "/again")) plan

-- by whether the path is that of several commands, and that of lines to be looked at
abbrev pub PlansAtLines : PageContext → ItemsOf → List ℕ → List Pair → Bool → Bool → RequestPlan
    → Type 0
PlansAtLines around q path pairs true lines plan = PlansList around q pairs plan
PlansAtLines around q path pairs false true plan =
    LooksAt around (page_after pairs) (value_of (codes "lines") pairs) plan
PlansAtLines around q path pairs false false plan = PlansSentAnswers around q path pairs plan

-- the pairs of lines that are sent to a path
abbrev pub PlansSentLines : PageContext → ItemsOf → List ℕ → List Pair → RequestPlan → Type 0
PlansSentLines around q path pairs plan =
    PlansAtLines around q path pairs (bytes_eq path (codes "/commands"))
    (bytes_eq path (codes "/lines")) plan

-- by whether the path is that of a card's form, and that of a command's: of forms the competition's
-- file is of cards alone
abbrev pub PlansAt : PageContext → Option (List ℕ) → ItemsOf → List ℕ → List Pair → Bool → Bool
    → RequestPlan → Type 0
PlansAt around file q path pairs true command plan = PlansCard around file q pairs plan
PlansAt around file q path pairs false true plan = PlansCommand around q pairs plan
PlansAt around file q path pairs false false plan = PlansSentLines around q path pairs plan

-- the pairs that are sent to a path
abbrev pub PlansSent : PageContext → Option (List ℕ) → ItemsOf → List ℕ → List Pair → RequestPlan
    → Type 0
PlansSent around file q path pairs plan =
    PlansAt around file q path pairs (bytes_eq path (codes "/card"))
    (bytes_eq path (codes "/command")) plan

abbrev pub PlansPosted : PageContext → Option (List ℕ) → ItemsOf → List ℕ → List Pair → Bool
    → RequestPlan → Type 0
PlansPosted around file q path pairs false plan = plan ≡ refuses problem.Foreign
PlansPosted around file q path pairs true plan = PlansSent around file q path pairs plan

-- a form of pairs that is sent, if it carries the token
abbrev pub PlansPairs : PageContext → Option (List ℕ) → ItemsOf → Request (List ℕ) → RequestPlan
    → Type 0
PlansPairs around file q request plan =
    PlansPosted around file q (path_of request) (sent_pairs request)
    (has_token around.token.now (sent_pairs request)) plan

-- by whether the path is that of a competition's file
abbrev pub PlansFormAt : PageContext → Option (List ℕ) → ItemsOf → Request (List ℕ) → Bool
    → RequestPlan → Type 0
PlansFormAt around file q request true plan = PlansImport around request plan
PlansFormAt around file q request false plan = PlansPairs around file q request plan

-- a form that is sent
abbrev pub PlansPost : PageContext → Option (List ℕ) → ItemsOf → Request (List ℕ) → RequestPlan
    → Type 0
PlansPost around file q request plan =
    PlansFormAt around file q request (bytes_eq (path_of request) (codes "/import")) plan

-- by whether the method only reads, and whether it sends a form
abbrev pub PlansBy : PageContext → List ℕ → Option (List ℕ) → ItemsOf → Request (List ℕ) → Bool
    → Bool → RequestPlan → Type 0
PlansBy around title file q request true post plan = PlansRead q around title file request plan
PlansBy around title file q request false true plan = PlansPost around file q request plan
PlansBy around title file q request false false plan = plan ≡ refuses problem.Method

abbrev pub PlansOwn : PageContext → List ℕ → Option (List ℕ) → ItemsOf → Request (List ℕ)
    → RequestPlan → Type 0
PlansOwn around title file q request plan =
    PlansBy around title file q request (is_read request) (is_post request) plan
