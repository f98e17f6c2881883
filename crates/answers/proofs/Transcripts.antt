-- Transcripts: one entry more, the first entries of a log, and a log that grew.
use Rattle.std.proofs.Common.{◌≡◌, ◌<◌, ◌+◌, ℕ, zero, suc, List, [], ◌∷◌, ◌++◌, Some, length, take}
use Rattle.std.proofs.Common.{slice_get, refl, sym, ap, ◌∙◌, subst, arith, length-append}
use Rattle.std.proofs.{Math.Seq.take-length, lemmas.Option.slice_get_within}
use Rattle.std.proofs.lemmas.List.{append-nil, append_assoc, map-append, take-append-le, take-take}
use Rattle.std.specs.Option.{option_map}
use Rattle.acceptor.specs.declared.entry.Entry.{Entry}
use Rattle.answers.specs.{Answers.texts, Transcripts.IsTranscript, Transcripts.IsFront}
use Rattle.answers.specs.Transcripts.{answer_after, answer_at, answers_after, TranscriptValue}
use Rattle.commands.specs.History.{History, StandsFor, history, answer_to}
use Rattle.learner.specs.Laws.{IsPrefix}
use Rattle.texts.specs.declared.answer.Answer.{Answer}

-- ---- lists

pub take_more : (log : List Entry) (k : ℕ) (e : Entry) → slice_get log k ≡ Some e
    → take (k + 1) log ≡ take k log ++ e ∷ []
take_more log k e h =
    let next : k + 1 ≡ suc k = omega arith in ap (λ (j : ℕ). take j log) next ∙ go log k h
  where
    go : (xs : List Entry) (i : ℕ) → slice_get xs i ≡ Some e → take (suc i) xs ≡ take i xs ++ e ∷ []
    go [] i h = absurd cc
    go (x ∷ xs) zero h = let same : x ≡ e = cc in ap (λ (y : Entry). y ∷ []) same
    go (x ∷ xs) (suc i) h = ap (λ (ys : List Entry). x ∷ ys) (go xs i h)

get_take : (xs : List Entry) (n k : ℕ) → k < n → slice_get (take n xs) k ≡ slice_get xs k
get_take xs zero k h = absurd (omega (arith, h))
get_take [] (suc n) k h = refl
get_take (x ∷ xs) (suc n) zero h = refl
get_take (x ∷ xs) (suc n) (suc k) h = get_take xs n k (omega (arith, h))

-- ---- answers

-- there is one for each entry
as_many : (before entries : List Entry) → length (answers_after before entries) ≡ length entries
as_many before [] = refl
as_many before (e ∷ entries) = ap suc (as_many (before ++ e ∷ []) entries)

-- one more entry is answered after all that are there
one_more : (before entries : List Entry) (e : Entry) → answers_after before (entries ++ e ∷ [])
    ≡ answers_after before entries ++ answer_after (before ++ entries) e ∷ []
one_more before [] e =
    ap (λ (es : List Entry). answer_after es e ∷ []) (sym (append-nil before))
one_more before (x ∷ entries) e =
    ap (λ (given : List Answer). answer_after before x ∷ given)
    (one_more (before ++ x ∷ []) entries e
    ∙ ap (λ (es : List Entry). answers_after (before ++ x ∷ []) entries ++ answer_after es e ∷ [])
    (append_assoc before (x ∷ []) entries))

-- the answer at a place
at_place : (before entries : List Entry) (place : ℕ)
    → slice_get (answers_after before entries) place
    ≡ option_map (answer_after (before ++ take place entries)) (slice_get entries place)
at_place before [] zero = refl
at_place before [] (suc place) = refl
at_place before (x ∷ entries) zero =
    ap (λ (es : List Entry). Some (answer_after es x)) (sym (append-nil before))
at_place before (x ∷ entries) (suc place) =
    at_place (before ++ x ∷ []) entries place
    ∙ ap (λ (es : List Entry). option_map (answer_after es) (slice_get entries place))
    (append_assoc before (x ∷ []) (take place entries))

-- ---- transcripts

pub answered : (t : TranscriptValue) (entries : List Entry) (position : ℕ)
    → IsTranscript t entries → slice_get t.answers position ≡ answer_at entries position
answered t entries position is =
    ap (λ (given : List Answer). slice_get given position) is.answers ∙ at_place [] entries position

pub is_as_long : (t : TranscriptValue) (entries : List Entry) → IsTranscript t entries
    → length t.answers ≡ length entries
is_as_long t entries is = ap length is.answers ∙ as_many [] entries

-- one entry more
pub taken_next : (old new : TranscriptValue) (entries : List Entry) (e : Entry) (answer : Answer)
    → IsTranscript old entries → StandsFor new.meet (texts entries ++ (e.id, e.text) ∷ [])
    → new.answers ≡ old.answers ++ answer ∷ [] → answer ≡ answer_to old.meet e.id e.text
    → IsTranscript new (entries ++ e ∷ [])
taken_next old new entries e answer is stands items answered =
    record {
      meet =
          subst (λ (es : List (ℕ × List ℕ)). StandsFor new.meet es)
          (sym (map-append (λ (x : Entry). (x.id, x.text)) entries (e ∷ []))) stands;
      answers =
          items
          ∙ ap (λ (a : Answer). old.answers ++ a ∷ []) answered
          ∙ ap (λ (given : List Answer). given ++ answer_to old.meet e.id e.text ∷ []) is.answers
          ∙ ap (λ (h : History). answers_after [] entries ++ answer_to h e.id e.text ∷ []) is.meet
          ∙ sym (one_more [] entries e);
    }

-- ---- the first entries of a log

pub none_front : (t : TranscriptValue) (log : List Entry) → IsTranscript t [] → IsFront t log
none_front t log is =
    let none : length t.answers ≡ 0 = is_as_long t [] is in
    let first : take (length t.answers) log ≡ [] =
    ap (λ (k : ℕ). take k log) none ∙ take_none log in
    record { few = omega (arith, none); first = subst (IsTranscript t) (sym first) is }
  where
    take_none : (xs : List Entry) → take 0 xs ≡ []
    take_none [] = refl
    take_none (x ∷ xs) = refl

pub whole_front : (t : TranscriptValue) (log : List Entry) → IsTranscript t log → IsFront t log
whole_front t log is =
    let all : length t.answers ≡ length log = is_as_long t log is in
    let whole : take (length t.answers) log ≡ log =
    ap (λ (k : ℕ). take k log) all ∙ take-length log in
    record { few = omega (arith, all); first = subst (IsTranscript t) (sym whole) is }

pub front_next : (old new : TranscriptValue) (log : List Entry) (e : Entry)
    → IsFront old log → slice_get log (length old.answers) ≡ Some e
    → length new.answers ≡ length old.answers + 1
    → IsTranscript new (take (length old.answers) log ++ e ∷ []) → IsFront new log
front_next old new log e is at more next =
    let there = slice_get_within log (length old.answers) e at in
    let same : take (length new.answers) log ≡ take (length old.answers) log ++ e ∷ [] =
    ap (λ (k : ℕ). take k log) more ∙ take_more log (length old.answers) e at in
    record {
      few = omega (arith, more, there);
      first = subst (IsTranscript new) (sym same) next;
    }

-- a log that grew begins as it was
pub front_grows : (t : TranscriptValue) (xs ys : List Entry) → IsPrefix xs ys → IsFront t xs
    → IsFront t ys
front_grows t xs ys grown is =
    subst (IsFront t) grown.1 (record {
      few = omega (arith, is.few, length-append xs grown.0);
      first =
          subst (IsTranscript t)
          (sym (take-append-le (length t.answers) xs grown.0 is.few)) is.first;
    })

-- the answer at a position that was taken
pub answered_front : (t : TranscriptValue) (log : List Entry) (position : ℕ) (answer : Answer)
    → IsFront t log → slice_get t.answers position ≡ Some answer
    → answer_at log position ≡ Some answer
answered_front t log position answer is at =
    let n : ℕ = length t.answers in
    let within : position < n = slice_get_within t.answers position answer at in
    ap (λ (before : List Entry). option_map (answer_after before) (slice_get log position))
    (sym (take-take position n log (omega (arith, within))))
    ∙ ap (option_map (answer_after (take position (take n log))))
    (sym (get_take log n position within))
    ∙ sym (answered t (take n log) position is.first)
    ∙ at

-- the meet where the entries up to this position were taken
pub meet_is : (t : TranscriptValue) (log : List Entry) (position : ℕ) → IsFront t log
    → position ≡ length t.answers → StandsFor t.meet (texts (take position log))
meet_is t log position is all =
    is.first.meet ∙ ap (λ (k : ℕ). history (texts (take k log))) (sym all)
