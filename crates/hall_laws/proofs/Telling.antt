-- A run of what a desk hands out stands for all of it.
use Rattle.std.proofs.Common.{◌≡◌, sym, ◌∙◌, ℕ, ◌+◌, true, ◌==◌, ◌||◌, List, [], ◌∷◌, None, Some}
use Rattle.std.proofs.Common.{refl, ap, Bool, false, nat_lt, if◌then◌else◌, length, Option, add-one}
use Rattle.std.proofs.lemmas.Bool.{eqb-true}
use Rattle.acceptor.specs.{declared.entry.Entry.Entry, Messages.message}
use Rattle.acceptor.specs.declared.message.{Body.Body, Body.TheVariants.Decided, Message.Message}
use Rattle.learner.specs.Learning.{told}
use Rattle.serving.specs.Telling.{position_told, decided_at, entry_told, with_entry, entries_told}
use Rattle.serving.specs.Telling.{run_by, run_from, run_of}
use Rattle.serving.specs.declared.request.DecidedRun.{DecidedRun}
use Rattle.hall_laws.{specs.Pushing.said_by, proofs.Plans.AllFrom}

decided_is : (pos : ℕ) (b : Body) (e : Entry) → decided_at pos b ≡ Some e → b ≡ Decided pos e
decided_is pos (Decided p x) e h = go (p == pos) refl h
  where
    go : (t : Bool) → (p == pos) ≡ t → (if t then Some x else None) ≡ Some e
        → Decided p x ≡ Decided pos e
    go true same k = let place : p ≡ pos = eqb-true _ _ same in cc
    go false same k = absurd cc
decided_is pos _ e h = absurd cc

entry_is : (d to pos : ℕ) (m : Message) (e : Entry) → m.from ≡ d → entry_told to pos m ≡ Some e
    → m ≡ message d to (Decided pos e)
entry_is d to pos m e ours h = go (m.to == to) refl h
  where
    go : (t : Bool) → (m.to == to) ≡ t → (if t then decided_at pos m.body else None) ≡ Some e
        → m ≡ message d to (Decided pos e)
    go true same k =
        let place : m.to ≡ to = eqb-true _ _ same in
        let said : m.body ≡ Decided pos e = decided_is pos m.body e k in
        λ i. record { from = ours i; to = place i; body = said i }
    go false same k = absurd cc

all_told : (d to pos : ℕ) (ms : List Message) (es : List Entry) → AllFrom d ms
    → entries_told to pos ms ≡ Some es → ms ≡ told d to pos es
unfolding entries_told
all_told d to pos [] es ours h =
    let none : [] ≡ es = cc in ap (λ z. told d to pos z) none
all_told d to pos (m ∷ ms) es ours h =
    go (entry_told to pos m) (entries_told to (pos + 1) ms) refl refl h
    (λ rest. all_told d to (pos + 1) ms rest ours.1)
  where
    go : (a : Option Entry) (b : Option (List Entry)) → entry_told to pos m ≡ a
        → entries_told to (pos + 1) ms ≡ b → with_entry a b ≡ Some es
        → ((rest : List Entry) → entries_told to (pos + 1) ms ≡ Some rest
        → ms ≡ told d to (pos + 1) rest) → m ∷ ms ≡ told d to pos es
    go None b p q k ih = absurd cc
    go (Some e) None p q k ih = absurd cc
    go (Some e) (Some rest) p q k ih =
        let same : e ∷ rest ≡ es = cc in
        let first = entry_is d to pos m e ours.0 p in
        let others = ih rest q ∙ ap (λ k. told d to k rest) (add-one pos) in
        (λ i. first i ∷ others i) ∙ ap (λ z. told d to pos z) same

-- a run of what the desk handed out stands for all of it
pub run_says : (d : ℕ) (ms : List Message) (run : DecidedRun) → AllFrom d ms
    → run_of d ms ≡ Some run → ms ≡ said_by run
unfolding run_of
run_says d [] run ours h = absurd cc
run_says d (m ∷ ms) run ours h = go ((m.to == d) || nat_lt 16 (length (m ∷ ms))) h
  where
    by : (pos : ℕ) (o : Option (List Entry)) → entries_told m.to pos (m ∷ ms) ≡ o
        → run_by m pos o ≡ Some run → m ∷ ms ≡ said_by run
    by pos None is k = absurd cc
    by pos (Some es) is k =
        let made : record { from = m.from; to = m.to; pos = pos; entries = es } ≡ run = cc in
        let all : m ∷ ms ≡ told d m.to pos es = all_told d m.to pos (m ∷ ms) es ours is in
        all ∙ ap (λ z. told z m.to pos es) (sym ours.0) ∙ ap (λ z. said_by z) made

    from : (o : Option ℕ) → run_from m ms o ≡ Some run → m ∷ ms ≡ said_by run
    from None k = absurd cc
    from (Some pos) k = by pos (entries_told m.to pos (m ∷ ms)) refl k

    go : (s : Bool) → (if s then None else run_from m ms (position_told m.body)) ≡ Some run
        → m ∷ ms ≡ said_by run
    go true k = absurd cc
    go false k = from (position_told m.body) k
