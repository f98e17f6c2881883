-- What is planned for several commands, and for lines and files that are looked at.
use Rattle.std.proofs.Common.{◌≡◌, ◌∙◌, ℕ, Vec, Bool, true, Err, None, ap, inl, inr, map, refl, sym}
use Rattle.std.proofs.Common.{◌||◌, List, Global, false, Result, Ok, Option, bytes_eq, codes, subst}
use Rattle.std.specs.{Prelude.IfOk, declared.alloc.AllocError.AllocError}
use Rattle.acceptor.specs.declared.entry.Entry.{Entry}
use Rattle.card_forms.specs.{declared.pairs.Pair.Pair, Entries.command_entries, Remarks.noted}
use Rattle.card_forms.specs.Faults.{IsWrong as AsksNone, Said, said_words}
use Rattle.card_forms.specs.Pairs.{value_of}
use Rattle.command_lists.specs.{declared.file.FileLines.FileLines, Answered.first_refusal}
use Rattle.command_lists.specs.{Files.IsOfFile, Lists.AreUnfit, Lists.IsReadFrom}
use Rattle.table_people_views.specs.Refused.{faults_page}
use Rattle.outbox.specs.Items.{ItemsOf}
use Rattle.wcif.specs.declared.{file.FileFault.FileFault, options.Options.Options}
use Rattle.table_views.specs.declared.around.PageContext.{PageContext}
use Rattle.table_service.specs.declared.plan.{RequestPlan.RequestPlan, PageStatus.PageStatus}
use Rattle.table_service.specs.Imports.{PlansCarried, PlansFile, PlansParts, content_of, options_of}
use Rattle.table_service.specs.Lists.{LooksAt, PlansAsked, PlansLines, answered, unfit_words}
use Rattle.table_service.specs.Lists.{is_known, would_be_done}
use Rattle.table_service.specs.Plans.{IsWrong, RefusesWith, page_after, remark_in}
use Rattle.table_service.specs.{Replying.ShowsPage, Taking.PlansEntries}
use Rattle.command_lists.specs.declared.file.FileLines.TheVariants as file
use Rattle.table_service.specs.declared.plan.Effect.TheVariants as effect
use Rattle.table_service.specs.declared.plan.PageReply.TheVariants as reply
use Rattle.table_service.specs.declared.plan.PageStatus.TheVariants as shown

-- a page that is sent
pub page_shown : (status : PageStatus) (text : List ℕ) (page : Vec ℕ Global) (plan : RequestPlan)
    → page.items ≡ text → plan ≡ record { reply = reply.Html status page; effect = effect.Ids }
    → ShowsPage status text plan
page_shown status text page plan is made =
    subst (λ (p : RequestPlan). ShowsPage status text p) (sym made) ((refl, is), refl)

-- the page says which field is wrong, and why
pub is_wrong : (around : PageContext) (pairs : List Pair) (it : Said) → AsksNone pairs it
    → (back words : List ℕ) → back ≡ page_after pairs → words ≡ said_words it
    → (r : Result RequestPlan AllocError) → IfOk r (RefusesWith around back words)
    → IfOk r (IsWrong around pairs)
is_wrong around pairs it none back words same says (Ok plan) wrong = (
  it,
  none,
  subst (λ (place : List ℕ). RefusesWith around place (said_words it) plan) same
      (subst (λ (why : List ℕ). RefusesWith around back why plan) says wrong),
)
is_wrong around pairs it none back words same says (Err error) wrong = tt

-- entries are taken at a place, by what both are
pub taken_at : (q : ItemsOf) (around : PageContext) (at place : List ℕ) → at ≡ place
    → (given entries : List Entry) → given ≡ entries → (r : Result RequestPlan AllocError)
    → IfOk r (PlansEntries q around at given) → IfOk r (PlansEntries q around place entries)
taken_at q around at place same given entries are (Ok plan) plans =
    subst (λ (es : List Entry). PlansEntries q around place es plan) are
    (subst (λ (back : List ℕ). PlansEntries q around back given plan) same plans)
taken_at q around at place same given entries are (Err error) plans = tt

module _ (around : PageContext) (q : ItemsOf) (pairs : List Pair) (id : ℕ) where
  -- the first of them is known, or all would be accepted
  abbrev goes_on : List (List ℕ) → Bool
  goes_on texts = is_known q id || would_be_done around.mirror.now id texts

  -- commands that are entered
  pub goes : (texts : List (List ℕ)) → goes_on texts ≡ true → (place : List ℕ)
      → place ≡ page_after pairs → (entries : List Entry)
      → entries ≡ command_entries id (map (noted (remark_in around)) texts)
      → (r : Result RequestPlan AllocError) → IfOk r (PlansEntries q around place entries)
      → IfOk r (PlansAsked around q pairs id texts (goes_on texts))
  goes texts is place same entries are (Ok plan) plans =
      subst (λ (b : Bool). PlansAsked around q pairs id texts b plan) (sym is)
      (subst (λ (es : List Entry). PlansEntries q around (page_after pairs) es plan) are
      (subst (λ (at : List ℕ). PlansEntries q around at entries plan) same plans))
  goes texts is place same entries are (Err error) plans = tt

  module _ (back : List ℕ) (same : back ≡ page_after pairs) where
    -- not all commands would be accepted
    pub not_done : (texts : List (List ℕ)) → goes_on texts ≡ false → (why : List ℕ)
        → why ≡ first_refusal texts (answered around.mirror.now id texts)
        → (r : Result RequestPlan AllocError) → IfOk r (RefusesWith around back why)
        → IfOk r (PlansAsked around q pairs id texts (goes_on texts))
    not_done texts is why says (Ok plan) wrong =
        subst (λ (b : Bool). PlansAsked around q pairs id texts b plan) (sym is)
        (subst (λ (words : List ℕ). RefusesWith around (page_after pairs) words plan) says
        (subst (λ (place : List ℕ). RefusesWith around place why plan) same wrong))
    not_done texts is why says (Err error) wrong = tt

    -- the lines have no commands that can be sent together
    pub none_read : (lines : List ℕ) → lines ≡ value_of (codes "lines") pairs
        → (texts : Option (List (List ℕ))) → texts ≡ None → IsReadFrom lines texts
        → (r : Result RequestPlan AllocError) → IfOk r (RefusesWith around back unfit_words)
        → IfOk r (PlansLines around q pairs id)
    none_read lines of texts is read (Ok plan) wrong =
        inl (
          subst AreUnfit of
              (subst (λ (o : Option (List (List ℕ))). IsReadFrom lines o) is read),
          subst (λ (place : List ℕ). RefusesWith around place unfit_words plan) same wrong,
        )
    none_read lines of texts is read (Err error) wrong = tt

module _ (around : PageContext) (options : Options) (bytes : List ℕ) (found : FileLines)
    (of : IsOfFile options bytes found) where
  -- the file's commands are looked at
  pub file_looked : (printed : Vec ℕ Global) → found ≡ file.Lines printed → (text : List ℕ)
      → text ≡ printed.items → (r : Result RequestPlan AllocError)
      → IfOk r (LooksAt around (codes "/import") text) → IfOk r (PlansFile around options bytes)
  file_looked printed is text same (Ok plan) looks =
      let so : IsOfFile options bytes (file.Lines printed) =
      subst (λ (f : FileLines). IsOfFile options bytes f) is of in
      let place = codes "/import" in
      inl (so.0, so.1, subst (λ (t : List ℕ). LooksAt around place t plan) (same ∙ so.2) looks)
  file_looked printed is text same (Err error) looks = tt

  -- the file gives none
  pub file_refused : (fault : FileFault) (words : Vec ℕ Global) → found ≡ file.Refused fault words
      → (said : List ℕ) (plan : RequestPlan)
      → ShowsPage shown.Wrong (faults_page around (codes "/import") said) plan
      → PlansFile around options bytes plan
  file_refused fault words is said plan shows =
      let so : IsOfFile options bytes (file.Refused fault words) =
      subst (λ (f : FileLines). IsOfFile options bytes f) is of in
      inr (fault, so, said, shows)

-- a form with a file that carries the token
pub file_carried : (around : PageContext) (parts : List (List ℕ × List ℕ)) (token : List ℕ)
    → token ≡ content_of (codes "token") parts → (carries : Bool)
    → carries ≡ bytes_eq token around.token.now → carries ≡ true → (options : Options)
    → options ≡ options_of parts → (file : List ℕ) → file ≡ content_of (codes "file") parts
    → (r : Result RequestPlan AllocError) → IfOk r (PlansFile around options file)
    → IfOk r (PlansParts around parts)
file_carried around parts token is carries same so options read file content (Ok plan) plans =
    let carried : bytes_eq (content_of (codes "token") parts) around.token.now ≡ true =
    ap (λ (t : List ℕ). bytes_eq t around.token.now) (sym is) ∙ sym same ∙ so in
    subst (λ (b : Bool). PlansCarried around parts b plan) (sym carried)
    (subst (λ (f : List ℕ). PlansFile around (options_of parts) f plan) content
    (subst (λ (o : Options). PlansFile around o file plan) read plans))
file_carried around parts token is carries same so options read file content (Err error) plans =
    tt
