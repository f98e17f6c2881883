-- Of all entries of an id one at most is accepted.
use Rattle.std.proofs.Common.{◌≡◌, ℕ, zero, suc, ◌<◌, ◌==◌, ◌||◌, Bool, true, false, List, [], ◌∷◌}
use Rattle.std.proofs.Common.{Some, slice_get, take, refl, sym, ap, ◌∙◌, arith, ◌⊎◌, inl, inr}
use Rattle.std.{specs.List.list_any, specs.Option.option_map, proofs.lemmas.Bool.Decides.nat_tests}
use Rattle.acceptor.specs.declared.entry.Entry.{Entry}
use Rattle.answers.specs.{Answers.texts, Transcripts.answer_after, Transcripts.answer_at}
use Rattle.commands.specs.History.{History, SeesEachId, answer_to, entry_refusal_in, history}
use Rattle.commands.specs.History.{is_seen}
use Rattle.outbox.specs.Laws.{CountsOnce, StandsAs}
use Rattle.texts.specs.declared.answer.Answer.TheVariants as answer
use Rattle.texts.specs.declared.answer.Code.TheVariants as code

-- an id is among those of the entries before a later position
seen_before : (log : List Entry) (i j : ℕ) (one : Entry) (id : ℕ) → i < j
    → slice_get log i ≡ Some one → one.id ≡ id
    → list_any (λ (e : ℕ × List ℕ). id == e.0) (texts (take j log)) ≡ true
seen_before [] i j one id less there is = absurd cc
seen_before (x ∷ log) i zero one id less there is = absurd (omega (arith, less))
seen_before (x ∷ log) zero (suc j) one id less there is =
    here (id == x.id) (list_any (λ (e : ℕ × List ℕ). id == e.0) (texts (take j log))) first
  where
    same : x ≡ one
    same = cc

    first : (id == x.id) ≡ true
    first = let k : x.id ≡ id = ap (λ (e : Entry). e.id) same ∙ is in grind (arith, nat_tests)

    here : (a b : Bool) → a ≡ true → (a || b) ≡ true
    here true b e = refl
    here false b e = absurd cc
seen_before (x ∷ log) (suc i) (suc j) one id less there is =
    there_too (id == x.id) (list_any (λ (e : ℕ × List ℕ). id == e.0) (texts (take j log)))
    (seen_before log i j one id (omega (arith, less)) there is)
  where
    there_too : (a b : Bool) → b ≡ true → (a || b) ≡ true
    there_too true b e = refl
    there_too false b e = e

pub repeats : (h : History) (id : ℕ) (text : List ℕ) → is_seen h id ≡ true
    → answer_to h id text ≡ answer.Refused code.Repeat
unfolding entry_refusal_in
repeats h id text seen = rw seen refl

-- an entry whose id another one had is not accepted
refused_later : SeesEachId → (log : List Entry) (i j : ℕ) (one other : Entry) → i < j
    → StandsAs log i one answer.Done → StandsAs log j other answer.Done → one.id ≡ other.id → ⊥
refused_later sees log i j one other less first second same =
    let before : List Entry = take j log in
    let seen : is_seen (history (texts before)) other.id ≡ true =
    sees (texts before) other.id ∙ seen_before log i j one other.id less first.there same in
    let told : answer_at log j ≡ Some (answer.Refused code.Repeat) =
    ap (option_map (answer_after before)) second.there
    ∙ ap (λ a. Some a) (repeats (history (texts before)) other.id other.text seen) in
    absurd (let k = sym told ∙ second.answered in cc)

order : (i j : ℕ) → (i < j) ⊎ ((j < i) ⊎ (i ≡ j))
order zero zero = inr (inr refl)
order zero (suc j) = inl (omega arith)
order (suc i) zero = inr (inl (omega arith))
order (suc i) (suc j) = up (order i j)
  where
    up : (i < j) ⊎ ((j < i) ⊎ (i ≡ j)) → (suc i < suc j) ⊎ ((suc j < suc i) ⊎ (suc i ≡ suc j))
    up (inl less) = inl (omega arith)
    up (inr (inl less)) = inr (inl (omega arith))
    up (inr (inr same)) = inr (inr (ap suc same))

pub counts_once : SeesEachId → CountsOnce
counts_once sees log i j one other first second same = go (order i j)
  where
    go : (i < j) ⊎ ((j < i) ⊎ (i ≡ j)) → i ≡ j
    go (inl less) = absurd (refused_later sees log i j one other less first second same)
    go (inr (inl less)) =
        absurd (refused_later sees log j i other one less second first (sym same))
    go (inr (inr is)) = is
