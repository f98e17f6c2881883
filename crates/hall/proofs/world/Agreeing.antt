-- Equal logs up to a position have equal sheets and answers there.
use Rattle.std.proofs.Common.{◌≡◌, ℕ, ◌+◌, ◌<◌, ◌≤◌, ◌⊎◌, inl, inr, Bool, true, false}
use Rattle.std.proofs.Common.{if◌then◌else◌, ◌==◌, List, [], ◌∷◌, ◌++◌, Option, Some, None, length}
use Rattle.std.proofs.Common.{slice_get, take, refl, sym, ap, ◌∙◌, subst, arith}
use Rattle.std.specs.List.{position_from}
use Rattle.acceptor.specs.declared.entry.Entry.{Entry}
use Rattle.texts.specs.declared.answer.Answer.{Answer}
use Rattle.commands.specs.History.{history, answer_to}
use Rattle.learner.specs.{Laws.IsPrefix, Laws.LogsAgree, Laws.LogsAreSubmitted, Logs.position_of}
use Rattle.answers.specs.Answers.{texts, is_queued, told, told_at, told_by}
use Rattle.answers.specs.declared.answers.IdState.TheVariants.{Done, Pending, Unknown}
use Rattle.answers.proofs.Fronts.{found_front, get_front, same_front, same_sheet}
use Rattle.hall.specs.world.Headline.{DesksAgree, log_at}

-- no entry is found in front of where the search begins
found_late : (t : Entry → Bool) (i p : ℕ) (ys : List Entry) → position_from t i ys ≡ Some p → i ≤ p
found_late t i p [] h = absurd cc
found_late t i p (y ∷ ys) h = go (t y) h (found_late t (i + 1) p ys)
  where
    go : (b : Bool) → (if b then Some i else position_from t (i + 1) ys) ≡ Some p
        → (position_from t (i + 1) ys ≡ Some p → i + 1 ≤ p) → i ≤ p
    go true e f = let same : i ≡ p = cc in omega arith
    go false e f = let less = f e in omega arith

-- an entry found at a place of the front is found there in the front alone
found_there : (t : Entry → Bool) (i p : ℕ) (xs rest : List Entry)
    → position_from t i (xs ++ rest) ≡ Some p → p < i + length xs → position_from t i xs ≡ Some p
found_there t i p [] rest h less = let late = found_late t i p rest h in absurd (omega arith)
found_there t i p (x ∷ xs) rest h less =
    go (t x) h (λ e. found_there t (i + 1) p xs rest e (omega arith))
  where
    go : (b : Bool) → (if b then Some i else position_from t (i + 1) (xs ++ rest)) ≡ Some p
        → (position_from t (i + 1) (xs ++ rest) ≡ Some p → position_from t (i + 1) xs ≡ Some p)
        → (if b then Some i else position_from t (i + 1) xs) ≡ Some p
    go true e f = e
    go false e f = f e

found_less : (t : Entry → Bool) (i p : ℕ) (xs : List Entry) → position_from t i xs ≡ Some p
    → p < i + length xs
found_less t i p [] h = absurd cc
found_less t i p (x ∷ xs) h = go (t x) h (found_less t (i + 1) p xs)
  where
    go : (b : Bool) → (if b then Some i else position_from t (i + 1) xs) ≡ Some p
        → (position_from t (i + 1) xs ≡ Some p → p < i + 1 + length xs) → p < i + length (x ∷ xs)
    go true e f = let same : i ≡ p = cc in omega arith
    go false e f = let less = f e in omega arith

-- two logs of which one is a prefix of the other
abbrev AreOne : List Entry → List Entry → Type 0
AreOne xs ys = IsPrefix xs ys ⊎ IsPrefix ys xs

same_entry : (xs ys : List Entry) (p : ℕ) → AreOne xs ys → p < length xs → p < length ys
    → slice_get ys p ≡ slice_get xs p
same_entry xs ys p (inl h) low high = ap (λ zs. slice_get zs p) (sym h.1) ∙ get_front xs h.0 p low
same_entry xs ys p (inr h) low high =
    sym (ap (λ zs. slice_get zs p) (sym h.1) ∙ get_front ys h.0 p high)

same_found : (xs ys : List Entry) (id p : ℕ) → AreOne xs ys → position_of xs id ≡ Some p
    → p < length ys → position_of ys id ≡ Some p
same_found xs ys id p (inl h) found high =
    subst (λ zs. position_of zs id ≡ Some p) h.1 (found_front (λ e. e.id == id) 0 p xs h.0 found)
same_found xs ys id p (inr h) found high =
    found_there (λ e. e.id == id) 0 p ys h.0
    (subst (λ zs. position_of zs id ≡ Some p) (sym h.1) found) (omega arith)

-- what is answered Done was found at its position
done_found : (log queue : List Entry) (id pos : ℕ) (a : Answer) → told log queue id ≡ Done pos a
    → position_of log id ≡ Some pos
done_found log queue id pos a h = by_place (position_of log id) h
  where
    waits : (b : Bool) → (if b then Pending else Unknown) ≡ Done pos a → ⊥
    waits true e = cc
    waits false e = cc

    at : (p : ℕ) (o : Option Entry) → told_at log p o ≡ Done pos a → Some p ≡ Some pos
    at p None e = absurd cc
    at p (Some f) e = let same : p ≡ pos = cc in ap (λ k. Some k) same

    by_place : (o : Option ℕ) → told_by log queue id o ≡ Done pos a → o ≡ Some pos
    by_place None e = absurd (waits (is_queued queue id) e)
    by_place (Some p) e = at p (slice_get log p) e

same_told : (xs ys queue other : List Entry) (id pos : ℕ) (a : Answer)
    → position_of xs id ≡ Some pos → position_of ys id ≡ Some pos → take pos xs ≡ take pos ys
    → slice_get ys pos ≡ slice_get xs pos → told xs queue id ≡ Done pos a
    → told ys other id ≡ Done pos a
same_told xs ys queue other id pos a found again front entry h =
    ap (λ o. told_by ys other id o) again ∙ ap (λ o. told_at ys pos o) entry
    ∙ sym (at (slice_get xs pos)) ∙ sym (ap (λ o. told_by xs queue id o) found) ∙ h
  where
    at : (o : Option Entry) → told_at xs pos o ≡ told_at ys pos o
    at None = refl
    at (Some e) = ap (λ zs. Done pos (answer_to (history (texts zs)) e.id e.text)) front

pub desks_agree : LogsAgree → LogsAreSubmitted → DesksAgree
desks_agree agree submitted n events =
    record {
      logs = λ i j d k. agree n events i j d k;
      submitted = λ i d pos e h. submitted n (take i events) d pos e h;
      sheets =
          λ i j d k position style event round low high.
          same_sheet style (log_at n events i d) (log_at n events j k) position event round
          (agree n events i j d k) low high;
      answers =
          λ i j d k id pos answer queue other h less.
          answered (log_at n events i d) (log_at n events j k) queue other id pos answer
          (agree n events i j d k) h less;
    }
  where
    answered : (xs ys queue other : List Entry) (id pos : ℕ) (a : Answer) → AreOne xs ys
        → told xs queue id ≡ Done pos a → pos < length ys
        → (slice_get ys pos ≡ slice_get xs pos) × (told ys other id ≡ Done pos a)
    answered xs ys queue other id pos a one h less =
        let found = done_found xs queue id pos a h in
        let front_less = found_less (λ e. e.id == id) 0 pos xs found in
        let here : pos < length xs = omega arith in
        let entry = same_entry xs ys pos one here less in
        let front = same_front xs ys pos one (omega arith) (omega arith) in (
          entry,
          same_told xs ys queue other id pos a found (same_found xs ys id pos one found less) front
              entry h,
        )
