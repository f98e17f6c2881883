-- Several commands that are sent together, one a line (the project's own).
use Rattle.std.specs.Prelude.{◌≡◌, ◌⊎◌, ℕ, ◌||◌, Bool, true, false, codes, List, [], ◌∷◌, get_or}
use Rattle.std.specs.Prelude.{is_some, map, Option, None, Some}
use Rattle.std.specs.List.{list_all}
use Rattle.acceptor.specs.declared.entry.Entry.{Entry}
use Rattle.texts.specs.declared.answer.Answer.{Answer}
use Rattle.card_forms.specs.{declared.pairs.Pair.Pair, Cards.form_id_of, Pairs.value_of}
use Rattle.card_forms.specs.{Entries.command_entries, Remarks.noted}
use Rattle.command_lists.specs.Answered.{first_refusal, is_done}
use Rattle.command_lists.specs.Lists.{AreUnfit, texts_in}
use Rattle.table_people_views.specs.declared.preview.PreviewedCommand.{PreviewedCommand}
use Rattle.table_people_views.specs.Preview.{preview_page}
use Rattle.answers.specs.Transcripts.{answers_after}
use Rattle.outbox.specs.Items.{ItemsOf, item_in}
use Rattle.table_views.specs.declared.around.PageContext.{PageContext}
use Rattle.table_service.specs.{declared.plan.RequestPlan.RequestPlan, Taking.PlansEntries}
use Rattle.table_service.specs.Plans.{RefusesWith, page_after, remark_in}
use Rattle.table_service.specs.Replying.{ShowsPage, refuses}
use Rattle.table_service.specs.declared.plan.Problem.TheVariants as problem
use Rattle.table_service.specs.declared.plan.PageStatus.TheVariants as shown

-- what commands would be answered after a log, if the first has this id
abbrev pub answered : List Entry → ℕ → List (List ℕ) → List Answer
answered log id texts = answers_after log (command_entries id texts)

abbrev pub would_be_done : List Entry → ℕ → List (List ℕ) → Bool
would_be_done log id texts = list_all is_done (answered log id texts)

-- what is said of lines that have no commands which can be sent together
abbrev pub unfit_words : List ℕ
unfit_words = codes "1 to 16,384 commands are sent together, each of at most 600 bytes"

-- ---- commands that are sent

-- the first of them is known
abbrev pub is_known : ItemsOf → ℕ → Bool
is_known q id = is_some (item_in q id)

-- by whether the first of them is known, or all of them would be accepted
abbrev pub PlansAsked : PageContext → ItemsOf → List Pair → ℕ → List (List ℕ) → Bool → RequestPlan
    → Type 0
PlansAsked around q pairs id texts true plan =
    PlansEntries q around (page_after pairs)
    (command_entries id (map (noted (remark_in around)) texts)) plan
PlansAsked around q pairs id texts false plan =
    RefusesWith around (page_after pairs)
    (first_refusal texts (answered around.mirror.now id texts)) plan

-- the lines have commands that can be sent together
pub record AsksTexts (around : PageContext) (q : ItemsOf) (pairs : List Pair) (id : ℕ)
    (plan : RequestPlan) : Type 0 where
  pub texts : List (List ℕ)
  pub are : texts_in (value_of (codes "lines") pairs) ≡ Some texts
  pub plans : PlansAsked around q pairs id texts
      (is_known q id || would_be_done around.mirror.now id texts) plan

-- the lines of the form with this id
abbrev pub PlansLines : PageContext → ItemsOf → List Pair → ℕ → RequestPlan → Type 0
PlansLines around q pairs id plan =
    (AreUnfit (value_of (codes "lines") pairs)
    × RefusesWith around (page_after pairs) unfit_words plan) ⊎ AsksTexts around q pairs id plan

abbrev pub PlansListOf : PageContext → ItemsOf → List Pair → Option ℕ → RequestPlan → Type 0
PlansListOf around q pairs None plan = plan ≡ refuses problem.BadForm
PlansListOf around q pairs (Some id) plan = PlansLines around q pairs id plan

-- the form of several commands
abbrev pub PlansList : PageContext → ItemsOf → List Pair → RequestPlan → Type 0
PlansList around q pairs plan =
    PlansListOf around q pairs (form_id_of (value_of (codes "id") pairs)) plan

-- ---- commands that are looked at

abbrev pub tried_as : PreviewedCommand → List ℕ × Answer
tried_as tried = (tried.text.now, tried.answer)

-- each text with its answer
abbrev pub paired : List (List ℕ) → List Answer → List (List ℕ × Answer)
paired [] answers = []
paired (text ∷ texts) [] = []
paired (text ∷ texts) (answer ∷ answers) = (text, answer) ∷ paired texts answers

-- the page says what each would be answered, if the first had the first id of the page's forms
pub record Previews (around : PageContext) (back : List ℕ) (texts : List (List ℕ))
    (plan : RequestPlan) : Type 0 where
  pub tried : List PreviewedCommand
  pub are : map tried_as tried
      ≡ paired texts (answered around.mirror.now (get_or around.ids.now 0 0) texts)
  pub shows : ShowsPage shown.Asked (preview_page around back tried) plan

-- lines are looked at, from the page at the path `back`
abbrev pub LooksAt : PageContext → List ℕ → List ℕ → RequestPlan → Type 0
LooksAt around back lines plan =
    (AreUnfit lines × RefusesWith around back unfit_words plan)
    ⊎ ((texts : List (List ℕ)) × (texts_in lines ≡ Some texts) × Previews around back texts plan)
