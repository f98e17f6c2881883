-- The laws of agreement.
use Rattle.std.proofs.Common.{◌≡◌, ℕ, zero, suc, ◌⊎◌, inl, inr, List, [], ◌∷◌, ◌++◌, Some}
use Rattle.std.proofs.Common.{slice_get, take, drop, refl, sym, ap, ◌∙◌, subst, length, ◌<◌, ◌≤◌}
use Rattle.std.proofs.Common.{arith, take-append-drop}
use Rattle.learner.proofs.{Grows.chosen_grows, Agree.one_chosen}
use Rattle.learner.proofs.Runs.{after_sound, run_more, run_log, run_append}
use Rattle.acceptor.specs.declared.entry.Entry.{Entry}
use Rattle.learner.specs.{declared.event.WorldEvent.WorldEvent, Chosen.IsChosen, Laws.IsPrefix}
use Rattle.learner.specs.Worlds.{World, new_world, run, after, log_of}
use Rattle.learner.specs.Laws.{LogsAreChosen, OneIsChosen, LogsAgree, LogsGrow, EntriesStay}

pub logs_are_chosen : LogsAreChosen
logs_are_chosen n events d pos e h = ((after_sound n events).desks d).log pos e h

pub one_is_chosen : OneIsChosen
one_is_chosen n events pos e f p q =
    one_chosen n (after n events) (after_sound n events) pos e f p q

-- of two lists that agree wherever both have something, one begins the other
pub prefix_from_same : (xs ys : List Entry)
    → ((k : ℕ) (e f : Entry) → slice_get xs k ≡ Some e → slice_get ys k ≡ Some f → e ≡ f)
    → IsPrefix xs ys ⊎ IsPrefix ys xs
prefix_from_same [] ys same = inl (ys, refl)
prefix_from_same (x ∷ xs) [] same = inr (x ∷ xs, refl)
prefix_from_same (x ∷ xs) (y ∷ ys) same =
    go (same 0 x y refl refl) (prefix_from_same xs ys (λ k e f h i. same (suc k) e f h i))
  where
    go : x ≡ y → IsPrefix xs ys ⊎ IsPrefix ys xs
        → IsPrefix (x ∷ xs) (y ∷ ys) ⊎ IsPrefix (y ∷ ys) (x ∷ xs)
    go e (inl p) = let h = p.1 in inl (p.0, cc)
    go e (inr p) = let h = p.1 in inr (p.0, cc)

-- what was chosen early is chosen in the end
chosen_early : (n : ℕ) (events : List WorldEvent) (i pos : ℕ) (e : Entry)
    → IsChosen n (after n (take i events)).sent pos e → IsChosen n (after n events).sent pos e
chosen_early n events i pos e h =
    let early : World = after n (take i events) in
    let more = run_more n early (drop i events) (after_sound n (take i events)) in
    let late : IsChosen n (run n early (drop i events)).sent pos e =
    subst (λ s. IsChosen n s pos e) more.1 (chosen_grows n early.sent more.0 pos e h) in
    let whole : run n early (drop i events) ≡ after n events =
    subst (λ (es : List WorldEvent). run n early (drop i events) ≡ after n es)
    (take-append-drop i events) (sym (run_append n new_world (take i events) (drop i events))) in
    subst (λ (w : World). IsChosen n w.sent pos e) whole late

pub logs_agree : LogsAgree
logs_agree n events i j d k =
    prefix_from_same (log_of n (take i events) d) (log_of n (take j events) k) (λ p e f a b.
    one_is_chosen n events p e f
    (chosen_early n events i p e (logs_are_chosen n (take i events) d p e a))
    (chosen_early n events j p f (logs_are_chosen n (take j events) k p f b)))

take_take : (xs : List WorldEvent) (i j : ℕ) → i ≤ j → take i (take j xs) ≡ take i xs
take_take xs zero j le = refl
take_take xs (suc i) zero le = absurd (omega arith)
take_take [] (suc i) (suc j) le = refl
take_take (x ∷ xs) (suc i) (suc j) le = ap (λ ys. x ∷ ys) (take_take xs i j (omega arith))

take_more : (xs : List WorldEvent) (i j : ℕ) → i ≤ j → take i xs ++ drop i (take j xs) ≡ take j xs
take_more xs i j le =
    ap (λ ys. ys ++ drop i (take j xs)) (sym (take_take xs i j le)) ∙ take-append-drop i (take j xs)

pub logs_grow : LogsGrow
logs_grow n events i j d le =
    let early : World = after n (take i events) in
    let p = run_log n early (drop i (take j events)) (after_sound n (take i events)) d in
    let e : run n early (drop i (take j events)) ≡ after n (take j events) =
    sym (run_append n new_world (take i events) (drop i (take j events)))
    ∙ ap (λ (es : List WorldEvent). run n new_world es) (take_more events i j le) in
    subst (λ (w : World). IsPrefix (early.desks d).log (w.desks d).log) e p

get_below : (xs : List Entry) (k : ℕ) → k < length xs → (e : Entry) × (slice_get xs k ≡ Some e)
get_below [] k h = absurd (omega arith)
get_below (x ∷ xs) zero h = (x, refl)
get_below (x ∷ xs) (suc k) h = get_below xs k (omega arith)

pub entries_stay : EntriesStay
entries_stay n events i j d k pos e h less =
    let there = get_below (log_of n (take j events) k) pos less in
    let same =
    one_is_chosen n events pos e there.0
    (chosen_early n events i pos e (logs_are_chosen n (take i events) d pos e h))
    (chosen_early n events j pos there.0
    (logs_are_chosen n (take j events) k pos there.0 there.1)) in
    there.1 ∙ ap (λ f. Some f) (sym same)
