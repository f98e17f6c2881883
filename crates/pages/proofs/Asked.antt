-- What was asked, one after the other.
use Rattle.std.proofs.Common.{◌≡◌, ◌+◌, refl, sym, ap, subst, ◌∙◌, ℕ, List, [], ◌∷◌, ◌++◌, Option}
use Rattle.std.proofs.Common.{append_assoc, append-nil, length, length-append}
use Rattle.pages.specs.{Asking.AsksSteps, Asking.StepsBy, declared.table.BrowserTable.BrowserTable}
use Rattle.polled.specs.{Telling.Tells, Requests.Asks, Requests.Request}
use Rattle.pages.specs.Musts.{AsksRound, Ends, GoesOn, joined}
use Rattle.polled.proofs.Telling.{Tells-nil, Tells-trans}
use Rattle.pages.specs.declared.table.Step.TheVariants as step_is

module _ {C : Type 0} (requests : C → Option (List Request)) where
  pub asks_none : (c : C) (P : List Request → Type 0) → P [] → Asks requests c c P
  asks_none c P p = ([], Tells-nil (requests c), p)

  pub asks_both : (c between later : C) (P Q R : List Request → Type 0)
      → ((xs ys : List Request) → P xs → Q ys → R (xs ++ ys))
      → Asks requests c between P → Asks requests between later Q → Asks requests c later R
  asks_both c between later P Q R both h k = (
    h.0 ++ k.0,
    Tells-trans (requests c) (requests between) (requests later) h.0 k.0 h.1 k.1,
    both h.0 k.0 h.2 k.2,
  )

  pub asks_as : (c later : C) (P Q : List Request → Type 0)
      → ((xs : List Request) → P xs → Q xs) → Asks requests c later P → Asks requests c later Q
  asks_as c later P Q same h = (h.0, h.1, same h.0 h.2)

  -- one thing was asked, and then more
  pub asks_after : (c between later : C) (one : Request) (P Q : List Request → Type 0)
      → ((ys : List Request) → P ys → Q (one ∷ ys))
      → Tells (requests c) (requests between) (one ∷ []) → Asks requests between later P
      → Asks requests c later Q
  asks_after c between later one P Q more told h = (
    one ∷ h.0,
    Tells-trans (requests c) (requests between) (requests later) (one ∷ []) h.0 told h.1,
    more h.0 h.2,
  )

-- ---- a round

joined_both : (xs ys : List (List Request)) → joined (xs ++ ys) ≡ joined xs ++ joined ys
joined_both [] ys = refl
joined_both (x ∷ xs) ys =
    ap (λ (t : List Request). x ++ t) (joined_both xs ys)
    ∙ sym (append_assoc x (joined xs) (joined ys))

module _ {C : Type 0} (wait : ℕ) where
  goes_on_both : (a b c : BrowserTable C) (xs ys : List (List Request)) → GoesOn wait a xs b
      → GoesOn wait b ys c → GoesOn wait a (xs ++ ys) c
  goes_on_both a b c [] ys h k = subst (λ z. GoesOn wait z ys c) (sym h) k
  goes_on_both a b c (x ∷ xs) ys h k =
      (h.0, h.1, h.2, h.3, goes_on_both h.1 b c xs ys h.4 k)

  pub steps_none : (a : BrowserTable C) → AsksSteps wait 0 a a []
  steps_none a = record { steps = []; goes = refl; counted = refl; all = refl }

  pub steps_more : (count : ℕ) (a b c : BrowserTable C) (xs ys : List Request)
      → AsksSteps wait count a b xs → StepsBy wait step_is.GoesOn b c ys
      → AsksSteps wait (count + 1) a c (xs ++ ys)
  steps_more count a b c xs ys h k = record {
    steps = h.steps ++ ys ∷ [];
    goes = goes_on_both a b c h.steps (ys ∷ []) h.goes (k.0, c, k.1, k.2, refl);
    counted = length-append h.steps (ys ∷ []) ∙ ap (λ n. n + 1) h.counted;
    all =
        ap (λ (t : List Request). t ++ ys) h.all
        ∙ ap (λ (t : List Request). joined h.steps ++ t) (sym (append-nil ys))
        ∙ sym (joined_both h.steps (ys ∷ []));
  }

  pub round_ends : (count : ℕ) (over : Option ℕ) (a b c : BrowserTable C) (xs ys : List Request)
      → AsksSteps wait count a b xs
      → ((n : ℕ) → n ≡ count → Ends wait n over b c ys) → AsksRound wait over a c (xs ++ ys)
  round_ends count over a b c xs ys h ends = record {
    steps = h.steps;
    mid = b;
    last = ys;
    goes = h.goes;
    ends = ends (length h.steps) h.counted;
    all = ap (λ (t : List Request). t ++ ys) h.all;
  }
