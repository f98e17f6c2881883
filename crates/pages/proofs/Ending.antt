-- Those that are waited for too long are let go, one after the other.
use Rattle.std.proofs.Common.{◌≡◌, ◌≢◌, ◌⊎◌, inl, inr, refl, sym, ap, subst, ◌∙◌, ℕ, List, [], ◌∷◌}
use Rattle.std.proofs.Common.{◌++◌, append_assoc, Bool, true, false, Some, None, true≢false}
use Rattle.std.{proofs.Common.unwrap_or, proofs.lemmas.Bool.cases_eq, specs.Prelude.map}
use Rattle.std.proofs.lemmas.List.Elements.{All-append, All-cons, All-nil}
use Rattle.pages.specs.{Asking.EndsSome, Asking.LetsGo, Kept.Places, Kept.places_of}
use Rattle.pages.specs.Musts.{IsIn, IsSame, WasLate, is_late_at}
use Rattle.polled.specs.Requests.{Closing, Request}
use Rattle.pages.specs.declared.table.{Browser.Browser, BrowserTable.BrowserTable}

abbrev closed : List ℕ → List Request
closed ks = map Closing ks

map_both : (xs ys : List ℕ) → closed (xs ++ ys) ≡ closed xs ++ closed ys
map_both [] ys = refl
map_both (x ∷ xs) ys = ap (λ (t : List Request). Closing x ∷ t) (map_both xs ys)

some_inj : (x y : Browser) → Some x ≡ Some y → x ≡ y
some_inj x y is = ap (λ o. unwrap_or o x) is

nobody : (b : Browser) → None ≡ Some b → ⊥
nobody b is = cc

-- ---- places

module _ (f g h : Places) (k : ℕ) (gone : h k ≡ None)
    (others : (j : ℕ) → j ≢ k → h j ≡ g j) where
  fewer_more : ((j : ℕ) (b : Browser) → g j ≡ Some b → f j ≡ Some b) → (j : ℕ) (b : Browser)
      → h j ≡ Some b → f j ≡ Some b
  fewer_more fewer j b at = elim (cases_eq j k) [
    | inl same ↦ absurd (nobody b (sym gone ∙ subst (λ n. h n ≡ Some b) same at))
    | inr apart ↦ fewer j b (sym (others j apart) ∙ at)
  ]

  stay_more : (late : Browser → Bool) (b : Browser) → f k ≡ Some b → late b ≡ true
      → ((j : ℕ) (c : Browser) → f j ≡ Some c → late c ≡ false → g j ≡ Some c)
      → (j : ℕ) (c : Browser) → f j ≡ Some c → late c ≡ false → h j ≡ Some c
  stay_more late b was is stay j c at timely = elim (cases_eq j k) [
    | inl same ↦
        let one : c ≡ b =
        some_inj c b (sym (subst (λ n. f n ≡ Some c) same at) ∙ was) in
        absurd (true≢false (sym is ∙ sym (ap late one) ∙ timely))
    | inr apart ↦ others j apart ∙ stay j c at timely
  ]

  closed_more : (ks : List ℕ) → ((j : ℕ) (b : Browser) → f j ≡ Some b → (g j ≡ Some b) ⊎ IsIn j ks)
      → (j : ℕ) (b : Browser) → f j ≡ Some b → (h j ≡ Some b) ⊎ IsIn j (ks ++ k ∷ [])
  closed_more ks closed j b at = elim (closed j b at) [
    | inl there ↦ elim (cases_eq j k) [
      | inl same ↦ inr (ks, [], ap (λ n. ks ++ n ∷ []) (sym same))
      | inr apart ↦ inl (others j apart ∙ there)
    ]
    | inr one ↦ inr (
      one.0,
      one.1 ++ k ∷ [],
      ap (λ (t : List ℕ). t ++ k ∷ []) one.2 ∙ append_assoc one.0 (j ∷ one.1) (k ∷ []),
    )
  ]

-- ---- the table

module _ {C : Type 0} (now : ℕ) (old mid new : BrowserTable C) where
  abbrev Late : ℕ → Type 0
  Late = WasLate old now

  pub ends_none : IsSame old new → EndsSome now old new []
  ends_none same = record {
    gone = [];
    all = refl;
    late = All-nil Late;
    closed = λ k b at. inl (same k ∙ at);
    fewer = λ k b at. sym (same k) ∙ at;
    stay = λ k b at timely. same k ∙ at;
  }

  -- one more of those that are late
  pub ends_more : (k : ℕ) (b : Browser) (xs ys : List Request) → EndsSome now old mid xs
      → places_of mid k ≡ Some b → is_late_at old now b ≡ true → LetsGo k mid new ys
      → EndsSome now old new (xs ++ ys)
  ends_more k b xs ys h at late (inl none) = absurd (nobody b (sym none.0 ∙ at))
  ends_more k b xs ys h at late (inr went) =
      let was = h.fewer k b at in
      record {
        gone = h.gone ++ k ∷ [];
        all =
            ap (λ (t : List Request). t ++ ys) h.all
            ∙ ap (λ (t : List Request). map Closing h.gone ++ t) went.1
            ∙ sym (map_both h.gone (k ∷ []));
        late =
            All-append Late h.gone (k ∷ []) h.late
            (All-cons Late k [] (b, was, late) (All-nil Late));
        closed =
            closed_more (places_of old) (places_of mid) (places_of new) k went.2.0 went.2.1 h.gone
            h.closed;
        fewer =
            fewer_more (places_of old) (places_of mid) (places_of new) k went.2.0 went.2.1 h.fewer;
        stay =
            stay_more (places_of old) (places_of mid) (places_of new) k went.2.0 went.2.1
            (is_late_at old now) b was late h.stay;
      }
