-- What is reported of an entry is what the log says.
use Rattle.std.proofs.Common.{◌≡◌, ◌≢◌, ℕ, ◌<◌, ◌==◌, Bool, true, false, List, [], ◌++◌, Option}
use Rattle.std.proofs.Common.{Some, None, length, slice_get, refl, sym, ap, ◌∙◌, arith}
use Rattle.std.proofs.Common.{if◌then◌else◌, subst, take}
use Rattle.std.specs.{Prelude.bytes_eq, Option.option_map}
use Rattle.std.proofs.lemmas.{Bool.Decides.nat_tests, Slice.Eq.bytes_eq-Decides}
use Rattle.acceptor.specs.declared.entry.Entry.{Entry}
use Rattle.learner.specs.Logs.{position_of}
use Rattle.texts.specs.declared.answer.{Answer.Answer, Code.Code}
use Rattle.answers.specs.Transcripts.{answer_after, answer_at}
use Rattle.outbox.specs.Laws.{IsSo, NeverByGuess, StandsAs, ToldAtOnce, ToldForGood}
use Rattle.outbox.specs.States.{answered_as, refused_as, state_at, state_by, state_of}
use Rattle.answers.proofs.Fronts.{found_front, get_front}
use Rattle.outbox.proofs.Fronts.{answer_front, found_at}
use Rattle.texts.specs.declared.answer.Answer.TheVariants as answer
use Rattle.texts.specs.declared.answer.Code.TheVariants as code
use Rattle.outbox.specs.declared.state.ItemState.TheVariants as state

same_entry : (a b : Entry) → a.id ≡ b.id → a.text ≡ b.text → a ≡ b
same_entry a b i t = λ k. record { id = i k; text = t k }

same_text : (a b : List ℕ) → bytes_eq a b ≡ true → a ≡ b
same_text a b h = let words = bytes_eq-Decides a b in grind (arith, nat_tests, words)

other_text : (a b : List ℕ) → bytes_eq a b ≡ false → a ≢ b
other_text a b h same = let words = bytes_eq-Decides a b in absurd (grind (arith, nat_tests, words))

has_id : (entry there : Entry) → (there.id == entry.id) ≡ true → there.id ≡ entry.id
has_id entry there h = grind (arith, nat_tests)

-- the entry at a position has the id, and is answered in every log that begins so
record IsThere (held log : List Entry) (entry : Entry) (p : ℕ) : Type 0 where
  there : Entry
  held_there : slice_get held p ≡ Some there
  log_there : slice_get log p ≡ Some there
  id : there.id ≡ entry.id
  told : Answer
  held_told : answer_at held p ≡ Some told
  log_told : answer_at log p ≡ Some told

is_there : (held rest : List Entry) (entry : Entry) (p : ℕ) → position_of held entry.id ≡ Some p
    → IsThere held (held ++ rest) entry p
is_there held rest entry p h =
    let found = found_at (λ e. e.id == entry.id) 0 p held h in
    let at : p ≡ found.place = omega (arith, found.at) in
    let less : p < length held = omega (arith, at, found.within) in
    let here : slice_get held p ≡ Some found.entry = ap (slice_get held) at ∙ found.there in
    let told : answer_at held p ≡ Some (answer_after (take p held) found.entry) =
    ap (option_map (answer_after (take p held))) here in
    record {
      there = found.entry;
      held_there = here;
      log_there = get_front held rest p less ∙ here;
      id = has_id entry found.entry found.passes;
      told = answer_after (take p held) found.entry;
      held_told = told;
      log_told = answer_front held rest p less ∙ told;
    }

stands : (held log : List Entry) (entry : Entry) (p : ℕ) (t : IsThere held log entry p)
    → bytes_eq t.there.text entry.text ≡ true → (told : Answer) → t.told ≡ told
    → StandsAs log p entry told
stands held log entry p t same told is = record {
  there =
      t.log_there
      ∙ ap (λ e. Some e) (same_entry t.there entry t.id (same_text t.there.text entry.text same));
  answered = t.log_told ∙ ap (λ a. Some a) is;
}

so_refused : (log : List Entry) (entry : Entry) (p : ℕ) (why : Code)
    → StandsAs log p entry (answer.Refused why) → IsSo log entry (refused_as p why)
so_refused log entry p code.Changed s = s
so_refused log entry p _ s = s

so_answered : (log : List Entry) (entry : Entry) (p : ℕ) (told : Answer)
    → StandsAs log p entry told → IsSo log entry (answered_as p (Some told))
so_answered log entry p answer.Done s = s
so_answered log entry p (answer.Refused why) s = so_refused log entry p why s

so_text : (held log : List Entry) (entry : Entry) (p : ℕ) (t : IsThere held log entry p)
    (same : Bool) → bytes_eq t.there.text entry.text ≡ same
    → IsSo log entry (if same then answered_as p (Some t.told) else state.OtherText p)
so_text held log entry p t true is =
    so_answered log entry p t.told (stands held log entry p t is t.told refl)
so_text held log entry p t false is = record {
  other = t.there;
  there = t.log_there;
  id = t.id;
  text = other_text t.there.text entry.text is;
}

-- what the state is, by what is there
state_is : (held log : List Entry) (entry : Entry) (p : ℕ) (t : IsThere held log entry p)
    → state_at held entry (Some p)
    ≡ (if bytes_eq t.there.text entry.text then answered_as p (Some t.told) else state.OtherText p)
state_is held log entry p t =
    ap (state_by held entry p) t.held_there
    ∙ ap (λ o. if bytes_eq t.there.text entry.text then answered_as p o else state.OtherText p)
    t.held_told

so_at : (held rest : List Entry) (entry : Entry) (o : Option ℕ) → position_of held entry.id ≡ o
    → IsSo (held ++ rest) entry (state_at held entry o)
so_at held rest entry None h = tt
so_at held rest entry (Some p) h =
    let t = is_there held rest entry p h in
    subst (IsSo (held ++ rest) entry) (sym (state_is held (held ++ rest) entry p t))
    (so_text held (held ++ rest) entry p t (bytes_eq t.there.text entry.text) refl)

pub never_by_guess : NeverByGuess
never_by_guess held log entry (rest, is) =
    subst (λ (l : List Entry). IsSo l entry (state_of held entry)) is
    (so_at held rest entry (position_of held entry.id) refl)

-- ---- what is reported stays

-- what is there is reported
ends : (p : ℕ) (told : Answer) (same : Bool)
    → (if same then answered_as p (Some told) else state.OtherText p) ≢ state.Waits
ends p answer.Done true h = absurd cc
ends p (answer.Refused why) true h = refused p why h
  where
    refused : (q : ℕ) (c : Code) → refused_as q c ≢ state.Waits
    refused q code.Changed e = absurd cc
    refused q _ e = absurd cc
ends p told false h = absurd cc

at_once : (held : List Entry) (entry : Entry) (o : Option ℕ) → position_of held entry.id ≡ o
    → state_at held entry o ≡ state.Waits → o ≡ None
at_once held entry None h w = refl
at_once held entry (Some p) h w =
    let t = is_there held [] entry p h in
    absurd (ends p t.told (bytes_eq t.there.text entry.text)
    (sym (state_is held (held ++ []) entry p t) ∙ w))

pub told_at_once : ToldAtOnce
told_at_once held entry w = at_once held entry (position_of held entry.id) refl w

for_good : (held rest : List Entry) (entry : Entry) (o : Option ℕ) → position_of held entry.id ≡ o
    → state_at held entry o ≢ state.Waits → state_of (held ++ rest) entry ≡ state_at held entry o
for_good held rest entry None h w = absurd (w refl)
for_good held rest entry (Some p) h w =
    let t = is_there held rest entry p h in
    ap (state_at (held ++ rest) entry) (found_front (λ e. e.id == entry.id) 0 p held rest h)
    ∙ ap (state_by (held ++ rest) entry p) t.log_there
    ∙ ap (λ o. if bytes_eq t.there.text entry.text then answered_as p o else state.OtherText p)
    t.log_told
    ∙ sym (state_is held (held ++ rest) entry p t)

pub told_for_good : ToldForGood
told_for_good held log entry (rest, is) w =
    subst (λ (l : List Entry). state_of l entry ≡ state_of held entry) is
    (for_good held rest entry (position_of held entry.id) refl w)
