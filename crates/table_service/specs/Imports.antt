-- A competition's file that is looked at (the project's own).
use Rattle.std.specs.Prelude.{◌≡◌, ◌⊎◌, ℕ, Bool, true, false, if◌then◌else◌, bytes_eq, codes, List}
use Rattle.std.specs.Prelude.{[], ◌∷◌, Option, None, Some, slice_get}
use Rattle.http.specs.declared.request.Request.{Request}
use Rattle.http_header.specs.FieldValue.{FieldValue}
use Rattle.form_data.specs.{Bodies.parts_of, Headers.boundary_of, declared.bodies.Part.Part}
use Rattle.table_people_views.specs.Refused.{faults_page}
use Rattle.texts.specs.declared.command.Command.{Command}
use Rattle.wcif.specs.{declared.file.FileFault.FileFault, Lines.lines}
use Rattle.wcif.specs.declared.options.{Edition.TheVariants.Four, Options.Options}
use Rattle.wcif.specs.Files.{FileFails, SetsUp}
use Rattle.table_views.specs.declared.around.PageContext.{PageContext}
use Rattle.table_service.specs.{declared.plan.RequestPlan.RequestPlan, Gate.values_in}
use Rattle.table_service.specs.{Lists.LooksAt, Replying.ShowsPage, Replying.refuses}
use Rattle.wcif.specs.declared.options.CumulativeLimits.TheVariants as limits
use Rattle.wcif.specs.declared.options.SameNames.TheVariants as names
use Rattle.table_service.specs.declared.plan.Problem.TheVariants as problem
use Rattle.table_service.specs.declared.plan.PageStatus.TheVariants as shown

-- a part's name and its content
abbrev pub named : Part → List ℕ × List ℕ
named part = (part.name.now, part.content.now)

-- the content of the first part of a name; nothing where there is none
abbrev pub content_of : List ℕ → List (List ℕ × List ℕ) → List ℕ
content_of name [] = []
content_of name (part ∷ parts) =
    if bytes_eq part.0 name then part.1 else content_of name parts

-- how the file is to be read
abbrev pub options_of : List (List ℕ × List ℕ) → Options
options_of parts = record {
  edition = Four;
  limits =
      if bytes_eq (content_of (codes "cumulative") parts) (codes "as-single") then limits.AsSingle
      else limits.Refuse;
  names =
      if bytes_eq (content_of (codes "same-names") parts) (codes "id") then names.WithId
      else names.Refuse;
}

-- the commands that set the file's competition up are looked at as lines; or the page says why
-- there are none
abbrev pub PlansFile : PageContext → Options → List ℕ → RequestPlan → Type 0
PlansFile around options bytes plan =
    ((commands : List Command) × SetsUp options bytes commands
    × LooksAt around (codes "/import") (lines commands) plan)
    ⊎ ((why : FileFault) × FileFails options bytes why × (words : List ℕ)
    × ShowsPage shown.Wrong (faults_page around (codes "/import") words) plan)

abbrev pub PlansCarried : PageContext → List (List ℕ × List ℕ) → Bool → RequestPlan → Type 0
PlansCarried around parts false plan = plan ≡ refuses problem.Foreign
PlansCarried around parts true plan =
    PlansFile around (options_of parts) (content_of (codes "file") parts) plan

-- the parts of a form with a file, if it carries the token
abbrev pub PlansParts : PageContext → List (List ℕ × List ℕ) → RequestPlan → Type 0
PlansParts around parts plan =
    PlansCarried around parts (bytes_eq (content_of (codes "token") parts) around.token.now) plan

-- the boundary of the parts of a request's body
abbrev pub boundary_by : Option FieldValue → Option (List ℕ)
boundary_by None = None
boundary_by (Some value) = boundary_of value.bytes

abbrev pub boundary_in : Request (List ℕ) → Option (List ℕ)
boundary_in request = boundary_by (slice_get (values_in (codes "content-type") request) 0)

-- by the parts of the body, if it has any
abbrev pub PlansPartsIf : PageContext → Option (List (List ℕ × List ℕ)) → RequestPlan → Type 0
PlansPartsIf around None plan = plan ≡ refuses problem.BadForm
PlansPartsIf around (Some parts) plan = PlansParts around parts plan

abbrev pub PlansBody : PageContext → List ℕ → Option (List ℕ) → RequestPlan → Type 0
PlansBody around body None plan = plan ≡ refuses problem.BadForm
PlansBody around body (Some boundary) plan = PlansPartsIf around (parts_of boundary body) plan

-- a form with a competition's file
abbrev pub PlansImport : PageContext → Request (List ℕ) → RequestPlan → Type 0
PlansImport around request plan = PlansBody around request.body (boundary_in request) plan
