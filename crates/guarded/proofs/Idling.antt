-- A connection to which nothing was let in.
use Rattle.std.proofs.Common.{◌≡◌, refl, sym, ap, subst, ◌∙◌, ℕ, List, [], ◌∷◌, ◌++◌, Option, None}
use Rattle.std.proofs.{Common.Some, lemmas.List.append_assoc}
use Rattle.std.specs.List.{flat_map, AllByRecursion}
use Rattle.serving.specs.{declared.ends.ConnectionEnd.ConnectionEnd, Turns.Talk, Turns.ReadsTo}
use Rattle.serving.proofs.{Pieces.front_none, TurnLaws.keeps_nothing, TurnLaws.not_begun}
use Rattle.wire.specs.{declared.frame.Frame.Frame, Ranges.IsFrame, Spelling.spelling}
use Rattle.wire.specs.Stream.{Begins, Breaks, IsBegun, Reader, Waits, front, holding, keeps}
use Rattle.wire.proofs.Streams.{front_again}
use Rattle.serving.specs.declared.ends.ConnectionEnd.TheVariants as end

-- nothing is held, and no frame waits
pub record IsIdle (talk : Talk) : Type 0 where
  pub stream : talk.stream ≡ holding []
  pub waiting : talk.waiting ≡ []

-- of two lists that are nothing together each is nothing
pub first_none : (xs ys : List ℕ) → xs ++ ys ≡ [] → xs ≡ []
first_none [] ys is = refl
first_none (x ∷ xs) ys is = absurd cc

pub second_none : (xs ys : List ℕ) → xs ++ ys ≡ [] → ys ≡ []
second_none [] ys is = is
second_none (x ∷ xs) ys is = absurd cc

-- no frame is spelled by nothing
none_waits : (waiting : List Frame) (rest : List ℕ) → AllByRecursion IsFrame waiting
    → flat_map spelling waiting ++ rest ≡ [] → waiting ≡ []
none_waits [] rest each is = refl
none_waits (f ∷ fs) rest each is =
    let more = flat_map spelling fs ++ rest in
    let none : spelling f ++ more ≡ []
    = sym (append_assoc (spelling f) (flat_map spelling fs) rest) ∙ is in
    let begins : Waits ≡ Begins f more
    = sym front_none ∙ ap front (sym none) ∙ front_again f more each.0 in
    absurd cc

none_held : (old : Talk) (more : List ℕ) → IsIdle old → more ≡ [] → old.stream.held ++ more ≡ []
none_held old more h none = ap (λ (z : Reader). z.held ++ more) h.stream ∙ none

-- nothing more was let in
pub idle_came : (e : Option ConnectionEnd) (more : List ℕ) (old new : Talk) → IsIdle old → more ≡ []
    → ReadsTo e more old new → IsIdle new
idle_came None more old new h none r =
    let whole : flat_map spelling new.waiting ++ r.rest ≡ []
    = sym r.whole ∙ none_held old more h none in
    let rest : r.rest ≡ [] = second_none (flat_map spelling new.waiting) r.rest whole in
    record {
      stream = r.keeps ∙ ap (λ (z : List ℕ). keeps (front z) z) rest ∙ keeps_nothing;
      waiting = none_waits new.waiting r.rest r.each whole;
    }
idle_came (Some (end.Fault e)) more old new h none r =
    let bad : Waits ≡ Breaks e
    = sym front_none ∙ ap front (sym (none_held old more h none)) ∙ r.0 in absurd cc
idle_came (Some end.NoMemory) more old new h none r =
    absurd (not_begun (subst (λ (z : List ℕ). IsBegun (front z)) (none_held old more h none) r.0))
idle_came (Some end.End) more old new h none r = absurd r
idle_came (Some end.Stopped) more old new h none r = absurd r
idle_came (Some end.Frames) more old new h none r = absurd r
idle_came (Some end.Reads) more old new h none r = absurd r
idle_came (Some end.Read) more old new h none r = absurd r
idle_came (Some end.Write) more old new h none r = absurd r
idle_came (Some end.Down) more old new h none r = absurd r
