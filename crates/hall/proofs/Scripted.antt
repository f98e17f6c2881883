-- The events of lines, and what is printed for them, from one line to the next.
use Rattle.std.proofs.Common.{◌≡◌, ℕ, ◌+◌, ◌≤◌, suc, zero, Bool, true, ◌&&◌, cond}
use Rattle.std.proofs.Common.{List, [], ◌∷◌, ◌++◌, length, Option, None, Some, refl, sym, ap, ◌∙◌}
use Rattle.std.proofs.Common.{append_assoc, append-nil, length-append, arith}
use Rattle.learner.specs.declared.event.WorldEvent.{WorldEvent}
use Rattle.lines.specs.Lines.{is_within, lines_read}
use Rattle.hall.specs.Halls.{IsHallText, event_text, events_text, logs_text}
use Rattle.hall.specs.model.Events.{event_of, before, events_of, are_events}
use Rattle.hall.specs.model.Running.{lines_text, hall_text}
use Rattle.hall.proofs.Spelled.{script_of, are_all}

-- each of the lines spells an event
abbrev pub AreGood : ℕ → List (List ℕ) → Type 0
AreGood n lines = length (events_of n lines) ≡ length lines

-- after lines that spell events the others follow
pub events_append : (n : ℕ) (lines others : List (List ℕ)) → AreGood n lines
    → events_of n (lines ++ others) ≡ events_of n lines ++ events_of n others
events_append n [] others h = refl
events_append n (line ∷ lines) others h = step (events_append n lines others) (event_of n line) h
  where
    step : (AreGood n lines
        → events_of n (lines ++ others) ≡ events_of n lines ++ events_of n others)
        → (o : Option WorldEvent) → length (before o (events_of n lines)) ≡ length (line ∷ lines)
        → before o (events_of n (lines ++ others))
        ≡ before o (events_of n lines) ++ events_of n others
    step later None h = absurd (let bad : zero ≡ suc (length lines) = h in cc)
    step later (Some e) h =
        let rest : AreGood n lines = omega (arith, h) in
        ap (λ es. e ∷ es) (later rest)

-- one more line that spells an event
pub events_more : (n : ℕ) (lines : List (List ℕ)) (line : List ℕ) (e : WorldEvent)
    → AreGood n lines → event_of n line ≡ Some e
    → events_of n (lines ++ line ∷ []) ≡ events_of n lines ++ e ∷ []
events_more n lines line e good is =
    events_append n lines (line ∷ []) good ∙ ap (λ o. events_of n lines ++ before o []) is

pub good_more : (n : ℕ) (lines : List (List ℕ)) (line : List ℕ) (e : WorldEvent)
    → AreGood n lines → event_of n line ≡ Some e → AreGood n (lines ++ line ∷ [])
good_more n lines line e good is =
    ap length (events_more n lines line e good is) ∙ length-append (events_of n lines) (e ∷ [])
    ∙ ap (λ k. k + 1) good ∙ sym (length-append lines (line ∷ []))

-- ---- what is printed

text_append : (n : ℕ) (events es fs : List WorldEvent) → events_text n events (es ++ fs)
    ≡ events_text n events es ++ events_text n (events ++ es) fs
text_append n events [] fs = ap (λ es. events_text n es fs) (sym (append-nil events))
text_append n events (e ∷ es) fs =
    ap (λ x. event_text n events e ++ x) (text_append n (events ++ e ∷ []) es fs) ∙ sym
    (append_assoc (event_text n events e) (events_text n (events ++ e ∷ []) es)
    (events_text n ((events ++ e ∷ []) ++ es) fs))
    ∙ ap (λ x. (event_text n events e ++ events_text n (events ++ e ∷ []) es) ++ events_text n x fs)
    (append_assoc events (e ∷ []) es)

-- one more line
pub script_more : (n : ℕ) (lines : List (List ℕ)) (line : List ℕ) (e : WorldEvent)
    → AreGood n lines → event_of n line ≡ Some e → lines_text n (lines ++ line ∷ [])
    ≡ lines_text n lines ++ event_text n (events_of n lines) e
script_more n lines line e good is =
    ap (events_text n []) (events_more n lines line e good is)
    ∙ text_append n [] (events_of n lines) (e ∷ [])
    ∙ ap (λ x. lines_text n lines ++ x) (append-nil (event_text n (events_of n lines) e))

-- what is printed for the first lines is the front of what is printed for all
pub script_begins : (n : ℕ) (lines others : List (List ℕ)) → AreGood n lines
    → (more : List ℕ) × (lines_text n (lines ++ others) ≡ lines_text n lines ++ more)
script_begins n lines others good = (
  events_text n (events_of n lines) (events_of n others),
  ap (events_text n []) (events_append n lines others good)
      ∙ text_append n [] (events_of n lines) (events_of n others),
)

-- ---- the text for a whole input

pub is_hall_text : (n : ℕ) (input : List ℕ) → n ≤ 255 → IsHallText n input (hall_text n input)
is_hall_text n input small =
    let all = script_of n (lines_read input) small in
    record {
      events = events_of n (lines_read input);
      others = all.0;
      spelled = all.1;
      is =
          ap (λ b. lines_text n (lines_read input)
          ++ cond (is_within input && b) (logs_text n (events_of n (lines_read input))) [])
          (are_all n (lines_read input) all.0 all.1);
    }

abbrev logs_for : ℕ → List ℕ → Bool → Bool → List ℕ
logs_for n input within good =
    cond (within && good) (logs_text n (events_of n (lines_read input))) []

pub text_whole : (n : ℕ) (input : List ℕ) → is_within input ≡ true
    → are_events n (lines_read input) ≡ true → hall_text n input
    ≡ lines_text n (lines_read input) ++ logs_text n (events_of n (lines_read input))
text_whole n input within good =
    ap
    (λ b. lines_text n (lines_read input) ++ logs_for n input b (are_events n (lines_read input)))
    within ∙ ap (λ g. lines_text n (lines_read input) ++ logs_for n input true g) good
