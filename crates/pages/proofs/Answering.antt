-- The turns of browsers, one after the other, as the service answered them.
use Rattle.std.proofs.Common.{◌≡◌, inl, inr, ℕ, List, [], ◌∷◌, ◌++◌, All, subst, refl, sym, ap, ◌∙◌}
use Rattle.std.proofs.{Common.append_assoc, Common.append-nil, lemmas.Bool.cases_eq}
use Rattle.std.proofs.lemmas.List.Elements.{All-append, All-cons, All-nil}
use Rattle.http.specs.declared.request.Request.{Request}
use Rattle.http_server.specs.declared.{connection.Connection.Connection, response.Response.Response}
use Rattle.http_server.specs.{Connection.history, History.History}
use Rattle.http_server.specs.Exchange.{Call, Calls, Chain}
use Rattle.pages.specs.Laws.{IsAnsweredBy}
use Rattle.pages.specs.Turns.{Answers, AreTurns, Turn, history_at}
use Rattle.pages.proofs.Keeping.{history_at-other, history_at-own}

module _ {S : Type 0} (answers : S → Request (List ℕ) → Response → S → Type 0) where
  AreTurns-append : (before xs ys : List Turn) (a b c : S) → AreTurns answers a before xs b
      → AreTurns answers b (before ++ xs) ys c → AreTurns answers a before (xs ++ ys) c
  AreTurns-append before [] ys a b c x y =
      subst (λ s. AreTurns answers s before ys c) x
      (subst (λ (ts : List Turn). AreTurns answers b ts ys c) (append-nil before) y)
  AreTurns-append before (t ∷ xs) ys a b c x y = (
    x.0,
    x.1,
    AreTurns-append (before ++ t ∷ []) xs ys x.0 b c x.2
        (subst (λ (ts : List Turn). AreTurns answers b ts ys c)
        (sym (append_assoc before (t ∷ []) xs)) y),
  )

  pub Answers-same : (a b : S) (before after : List Turn) → b ≡ a → after ≡ before
      → Answers answers a b before after
  Answers-same a b before after same none = ([], none ∙ sym (append-nil before), same)

  pub Answers-then : (a b c : S) (xs ys zs : List Turn) → Answers answers a b xs ys
      → Answers answers b c ys zs → Answers answers a c xs zs
  Answers-then a b c xs ys zs x y = (
    x.0 ++ y.0,
    y.1 ∙ ap (λ (t : List Turn). t ++ y.0) x.1 ∙ append_assoc xs x.0 y.0,
    AreTurns-append xs x.0 y.0 a b c x.2
        (subst (λ (ts : List Turn). AreTurns answers b ts y.0 c) x.1 y.2),
  )

  pub Answers-turn : (k : ℕ) (ts : List Turn) (c d : Connection) (a b : S)
      → history c ≡ history_at k ts → Calls answers a b (history c).calls (history d).calls
      → Answers answers a b ts (ts ++ (k, d) ∷ [])
  Answers-turn k ts c d a b at calls = (
    (k, d) ∷ [],
    refl,
    (b, subst (λ (h : History). Calls answers a b h.calls (history d).calls) at calls, refl),
  )

  -- ---- each call

  chain_answered : (a b : S) (cs : List Call) → Chain answers a cs b → All (IsAnsweredBy answers) cs
  chain_answered a b [] x = All-nil (IsAnsweredBy answers)
  chain_answered a b (c ∷ cs) x =
      All-cons (IsAnsweredBy answers) c cs ∣ (a, x.0, x.1) ∣₁ (chain_answered x.0 b cs x.2)

  -- each call of each browser after these turns
  abbrev AreAnswered : List Turn → Type 0
  AreAnswered ts = (k : ℕ) → All (IsAnsweredBy answers) (history_at k ts).calls

  own_calls : (k : ℕ) (ts : List Turn) (d : Connection) (a b : S) → AreAnswered ts
      → Calls answers a b (history_at k ts).calls (history d).calls
      → All (IsAnsweredBy answers) (history d).calls
  own_calls k ts d a b held calls =
      subst (λ (cs : List Call). All (IsAnsweredBy answers) cs) (sym calls.1)
      (All-append (IsAnsweredBy answers) (history_at k ts).calls calls.0 (held k)
      (chain_answered a b calls.0 calls.2))

  one_more : (k : ℕ) (ts : List Turn) (d : Connection) (a b : S) → AreAnswered ts
      → Calls answers a b (history_at k ts).calls (history d).calls
      → AreAnswered (ts ++ (k, d) ∷ [])
  one_more k ts d a b held calls j = elim (cases_eq j k) [
    | inl same ↦ subst
        (λ n. All (IsAnsweredBy answers) (history_at n (ts ++ (k, d) ∷ [])).calls) (sym same)
        (subst (λ (h : History). All (IsAnsweredBy answers) h.calls) (sym (history_at-own k ts d))
        (own_calls k ts d a b held calls))
    | inr apart ↦ subst (λ (h : History). All (IsAnsweredBy answers) h.calls)
        (sym (history_at-other j k ts d apart)) (held j)
  ]

  turns_answered : (a b : S) (before ts : List Turn) → AreTurns answers a before ts b
      → AreAnswered before → AreAnswered (before ++ ts)
  turns_answered a b before [] x held =
      subst (λ (us : List Turn). AreAnswered us) (sym (append-nil before)) held
  turns_answered a b before (t ∷ ts) x held =
      subst (λ (us : List Turn). AreAnswered us) (append_assoc before (t ∷ []) ts)
      (turns_answered x.0 b (before ++ t ∷ []) ts x.2 (one_more t.0 before t.1 a x.0 held x.1))

  pub calls_answered : (a b : S) (turns : List Turn) → Answers answers a b [] turns → (k : ℕ)
      → All (IsAnsweredBy answers) (history_at k turns).calls
  calls_answered a b turns x =
      subst (λ (us : List Turn). AreAnswered us) (sym x.1)
      (turns_answered a b [] x.0 x.2 (λ k. All-nil (IsAnsweredBy answers)))
