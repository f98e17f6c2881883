-- An event is read of its one spelling.
use Rattle.std.proofs.Common.{◌≡◌, ℕ, ◌+◌, ◌<◌, ◌≤◌, ◌^◌, zero, suc, Bool, true, false, ◌==◌, cond}
use Rattle.std.proofs.Common.{nat_le, List, [], ◌∷◌, ◌++◌, length, codes, decimal, bytes_eq, map}
use Rattle.std.proofs.Common.{Option, Some, None, Result, Ok, Err, refl, sym, ap, ◌∙◌, subst, arith}
use Rattle.std.proofs.Common.{append_assoc, length-append}
use Rattle.std.proofs.lemmas.{List.append_cancel_left, List.length-map, Bool.Decides.nat_tests}
use Rattle.std.specs.{Prelude.IfOk, Prelude.OnErr, Option.option_map}
use Rattle.acceptor.specs.Entries.{EntryValue}
use Rattle.learner.specs.declared.event.WorldEvent.{WorldEvent, TheVariants.Deliver}
use Rattle.learner.specs.declared.event.WorldEvent.TheVariants.{Restart, Submit, Start, Tick}
use Rattle.learner.specs.Steps.{IsDesk}
use Rattle.texts.{specs.Spelling.IsWithin, proofs.Spelled.bytes_eq-equal}
use Rattle.texts.specs.Fields.{cut, number_between}
use Rattle.texts.proofs.Cuts.{behind, cut_spelled, cut-behind, lacks}
use Rattle.texts.proofs.FieldSpellings.{number_spelled, decimal_no_space}
use Rattle.hall.specs.Scripts.{most_delivered, spelling, IsFit, AreFit, Spells, SpellsNone, IsRead}
use Rattle.hall.specs.Scripts.{SpellsSubmit, EndsScript, HasEvents}
use Rattle.hall.specs.model.Events.{◌>>=◌, entry_of, submit_of, number_of, by_word, event_of}
use Rattle.hall.specs.model.Events.{IsSubmit, before, events_of, are_events}

-- ---- what is read of a line is what it spells

-- an event that is read of what is after a word is spelled by both
abbrev SpellsBehind : ℕ → List ℕ → Option (List ℕ) → WorldEvent → Type 0
SpellsBehind n word left e = Spells n (word ++ behind 32 left) e

number_only : (n most : ℕ) (event : ℕ → WorldEvent) (word : List ℕ) (left : Option (List ℕ))
    (e : WorldEvent) → most < 10000000000000000000
    → ((k : ℕ) → IsWithin 1 most k → Spells n (word ++ 32 ∷ decimal k) (event k))
    → number_of most event left ≡ Some e → SpellsBehind n word left e
number_only n most event word None e small each h = absurd (let bad : None ≡ Some e = h in cc)
number_only n most event word (Some bytes) e small each h =
    step (number_between 1 most bytes) refl h
  where
    step : (o : Option ℕ) → number_between 1 most bytes ≡ o → option_map event o ≡ Some e
        → SpellsBehind n word (Some bytes) e
    step None is x = absurd (let bad : None ≡ Some e = x in cc)
    step (Some k) is x =
        let read = (number_spelled 1 most small).only bytes k is in
        let same : event k ≡ e = cc in
        subst (λ (y : List ℕ). Spells n (word ++ 32 ∷ y) e) (sym read.1)
        (subst (λ (f : WorldEvent). Spells n (word ++ 32 ∷ decimal k) f) same (each k read.0))

submit_is : (d : ℕ) (e : EntryValue) → spelling (Submit d e)
    ≡ codes "submit" ++ 32 ∷ (decimal d ++ 32 ∷ (decimal e.id ++ 32 ∷ e.text))
submit_is d e =
    ap (λ x. codes "submit " ++ x)
    (append_assoc (decimal d ++ codes " " ++ decimal e.id) (codes " ") e.text
    ∙ append_assoc (decimal d ++ codes " ") (decimal e.id) (32 ∷ e.text)
    ∙ append_assoc (decimal d) (codes " ") (decimal e.id ++ 32 ∷ e.text))

-- the text of an entry
entry_only : (n d id : ℕ) (text : List ℕ) (e : WorldEvent) → IsDesk n d
    → IsWithin 1 9223372036854775807 id
    → (entry_of id text >>= (λ entry. Some (Submit d entry))) ≡ Some e
    → Spells n (codes "submit" ++ 32 ∷ (decimal d ++ 32 ∷ (decimal id ++ 32 ∷ text))) e
entry_only n d id text e desk range h = step (nat_le (length text) 600) refl h
  where
    step : (b : Bool) → nat_le (length text) 600 ≡ b
        → (cond b (Some (record { id = id; text = text })) None
        >>= (λ entry. Some (Submit d entry))) ≡ Some e
        → Spells n (codes "submit" ++ 32 ∷ (decimal d ++ 32 ∷ (decimal id ++ 32 ∷ text))) e
    step false is x = absurd (let bad : None ≡ Some e = x in cc)
    step true is x =
        let entry : EntryValue = record { id = id; text = text } in
        let same : Submit d entry ≡ e = cc in
        let short : length text ≤ 600 = grind (arith, nat_tests, is) in
        let below : id < 2 ^ 63 = let r = range.1 in omega arith in
        subst (λ (f : WorldEvent).
        Spells n (codes "submit" ++ 32 ∷ (decimal d ++ 32 ∷ (decimal id ++ 32 ∷ text))) f) same
        ((desk, (range.0, below), short), sym (submit_is d entry))

then_some : {A B : Type 0} (o : Option A) (f : A → Option B) (y : B) → (o >>= f) ≡ Some y
    → (x : A) × (o ≡ Some x) × (f x ≡ Some y)
then_some None f y h = absurd (let bad : None ≡ Some y = h in cc)
then_some (Some x) f y h = (x, refl, h)

submit_only : (n : ℕ) (left : Option (List ℕ)) (e : WorldEvent) → n ≤ 255
    → submit_of n left ≡ Some e → SpellsBehind n (codes "submit") left e
unfolding submit_of
submit_only n None e small h = absurd (let bad : None ≡ Some e = h in cc)
submit_only n (Some fields) e small h =
    let desk = then_some (number_between 1 n (cut 32 fields).0) _ e h in
    let more = then_some (cut 32 fields).1 _ e desk.2 in
    let id = then_some (number_between 1 9223372036854775807 (cut 32 more.0).0) _ e more.2 in
    let text = then_some (cut 32 more.0).1 _ e id.2 in
    let first = (number_spelled 1 n (omega arith)).only (cut 32 fields).0 desk.0 desk.1 in
    let next =
    (number_spelled 1 9223372036854775807 (omega arith)).only (cut 32 more.0).0 id.0 id.1 in
    let behind_id : more.0 ≡ decimal id.0 ++ 32 ∷ text.0 =
    cut_spelled 32 more.0 ∙ ap (λ x. x ++ behind 32 (cut 32 more.0).1) next.1
    ∙ ap (λ o. decimal id.0 ++ behind 32 o) text.1 in
    let all : fields ≡ decimal desk.0 ++ 32 ∷ (decimal id.0 ++ 32 ∷ text.0) =
    cut_spelled 32 fields ∙ ap (λ x. x ++ behind 32 (cut 32 fields).1) first.1
    ∙ ap (λ o. decimal desk.0 ++ behind 32 o) more.1
    ∙ ap (λ x. decimal desk.0 ++ 32 ∷ x) behind_id in
    subst (λ (x : List ℕ). Spells n (codes "submit" ++ 32 ∷ x) e) (sym all)
    (entry_only n desk.0 id.0 text.0 e first.0 next.0 text.2)

-- one word after the other
abbrev IsOnly : ℕ → List ℕ × Option (List ℕ) → Option WorldEvent → WorldEvent → Type 0
IsOnly n text read e = read ≡ Some e → Spells n (text.0 ++ behind 32 text.1) e

word_only : (n : ℕ) (word : List ℕ) (of : Option (List ℕ) → Option WorldEvent)
    (others : Option WorldEvent) (text : List ℕ × Option (List ℕ)) (e : WorldEvent) (b : Bool)
    → bytes_eq text.0 word ≡ b
    → ((left : Option (List ℕ)) → of left ≡ Some e → SpellsBehind n word left e)
    → IsOnly n text others e → IsOnly n text (cond b (of text.1) others) e
word_only n word of others text e false is this other h = other h
word_only n word of others text e true is this other h =
    subst (λ (x : List ℕ). Spells n (x ++ behind 32 text.1) e) (sym (bytes_eq-equal text.0 word is))
    (this text.1 h)

by_word_only : (n : ℕ) (text : List ℕ × Option (List ℕ)) (e : WorldEvent) → n ≤ 255
    → IsOnly n text (by_word n text) e
by_word_only n text e small =
    word_only n (codes "submit") (submit_of n) _ text e _ refl (λ left. submit_only n left e small)
    (word_only n (codes "start") (number_of n Start) _ text e _ refl
    (λ left. number_only n n Start (codes "start") left e (omega arith) (λ k r. (r, refl)))
    (word_only n (codes "tick") (number_of n Tick) _ text e _ refl
    (λ left. number_only n n Tick (codes "tick") left e (omega arith) (λ k r. (r, refl)))
    (word_only n (codes "deliver") (number_of most_delivered Deliver) _ text e _ refl (λ left.
    number_only n most_delivered Deliver (codes "deliver") left e (omega arith) (λ k r. (r, refl)))
    (word_only n (codes "restart") (number_of n Restart) None text e _ refl
    (λ left. number_only n n Restart (codes "restart") left e (omega arith) (λ k r. (r, refl)))
    (λ h. absurd (let bad : None ≡ Some e = h in cc))))))

pub event_only : (n : ℕ) (line : List ℕ) (e : WorldEvent) → n ≤ 255 → event_of n line ≡ Some e
    → Spells n line e
unfolding event_of
event_only n line e small h =
    subst (λ (x : List ℕ). Spells n x e) (sym (cut_spelled 32 line))
    (by_word_only n (cut 32 line) e small h)

-- ---- what is spelled is read

word_found : (n : ℕ) (word left : List ℕ) → lacks 32 word ≡ true
    → event_of n (word ++ 32 ∷ left) ≡ by_word n (word, Some left)
unfolding event_of
word_found n word left none = ap (by_word n) (cut-behind 32 word (Some left) none)

number_found : (most k : ℕ) (event : ℕ → WorldEvent) → most < 10000000000000000000
    → IsWithin 1 most k → number_of most event (Some (decimal k)) ≡ Some (event k)
number_found most k event small fits = rw ((number_spelled 1 most small).found k fits) refl

submit_found : (n d : ℕ) (e : EntryValue) → n ≤ 255 → IsFit n (Submit d e)
    → submit_of n (Some (decimal d ++ 32 ∷ (decimal e.id ++ 32 ∷ e.text))) ≡ Some (Submit d e)
unfolding submit_of
submit_found n d e small fits =
    let below : e.id ≤ 9223372036854775807 = let r = fits.1.1 in omega arith in
    let short : nat_le (length e.text) 600 ≡ true = let r = fits.2 in grind (arith, nat_tests) in
    rw (cut-behind 32 (decimal d) (Some (decimal e.id ++ 32 ∷ e.text))
    (decimal_no_space d (omega arith))) (rw ((number_spelled 1 n (omega arith)).found d fits.0)
    (rw (cut-behind 32 (decimal e.id) (Some e.text) (decimal_no_space e.id (omega arith))) (rw
    ((number_spelled 1 9223372036854775807 (omega arith)).found e.id (fits.1.0, below))
    (rw short refl))))

pub event_found : (n : ℕ) (e : WorldEvent) → n ≤ 255 → IsFit n e → event_of n (spelling e) ≡ Some e
event_found n (Submit d e) small fits =
    ap (event_of n) (submit_is d e)
    ∙ word_found n (codes "submit") (decimal d ++ 32 ∷ (decimal e.id ++ 32 ∷ e.text)) refl
    ∙ submit_found n d e small fits
event_found n (Start d) small fits =
    word_found n (codes "start") (decimal d) refl ∙ number_found n d Start (omega arith) fits
event_found n (Tick d) small fits =
    word_found n (codes "tick") (decimal d) refl ∙ number_found n d Tick (omega arith) fits
event_found n (Deliver k) small fits =
    word_found n (codes "deliver") (decimal k) refl
    ∙ number_found most_delivered k Deliver (omega arith) fits
event_found n (Restart d) small fits =
    word_found n (codes "restart") (decimal d) refl ∙ number_found n d Restart (omega arith) fits

pub spelled_found : (n : ℕ) (line : List ℕ) (e : WorldEvent) → n ≤ 255 → Spells n line e
    → event_of n line ≡ Some e
spelled_found n line e small s = ap (event_of n) s.1 ∙ event_found n e small s.0

pub spelled_once : (n : ℕ) (line : List ℕ) (d e : WorldEvent) → n ≤ 255 → Spells n line d
    → Spells n line e → d ≡ e
spelled_once n line d e small a b =
    let same : Some d ≡ Some e =
    sym (spelled_found n line d small a) ∙ spelled_found n line e small b in
    cc

pub none_found : (n : ℕ) (line : List ℕ) → n ≤ 255 → SpellsNone n line → event_of n line ≡ None
none_found n line small none = step (event_of n line) refl
  where
    step : (o : Option WorldEvent) → event_of n line ≡ o → o ≡ None
    step None is = refl
    step (Some e) is = absurd (none e (event_only n line e small is))

none_spelled : (n : ℕ) (line : List ℕ) → n ≤ 255 → event_of n line ≡ None → SpellsNone n line
none_spelled n line small is e s =
    let bad : None ≡ Some e = sym is ∙ spelled_found n line e small s in absurd cc

-- ---- what the reader of a line answers

pub is_read : (n : ℕ) (line : List ℕ) (parts : List ℕ × Option (List ℕ)) (o : Option WorldEvent)
    → n ≤ 255 → parts ≡ cut 32 line → o ≡ by_word n parts → IsRead n line o
unfolding event_of
is_read n line parts None small cuts is = none_spelled n line small (sym (is ∙ ap (by_word n) cuts))
is_read n line parts (Some e) small cuts is =
    event_only n line e small (sym (is ∙ ap (by_word n) cuts))

pub needs_memory : (n : ℕ) (line : List ℕ) (parts : List ℕ × Option (List ℕ)) → n ≤ 255
    → parts ≡ cut 32 line → IsSubmit (by_word n parts) → SpellsSubmit n line
unfolding event_of
needs_memory n line parts small cuts h = step (by_word n parts) refl h
  where
    step : (o : Option WorldEvent) → by_word n parts ≡ o → IsSubmit o → SpellsSubmit n line
    step None is s = absurd s
    step (Some (Submit d e)) is s =
        (d, e, event_only n line (Submit d e) small (sym (ap (by_word n) cuts) ∙ is))
    step (Some (Start d)) is s = absurd s
    step (Some (Tick d)) is s = absurd s
    step (Some (Deliver k)) is s = absurd s
    step (Some (Restart d)) is s = absurd s

pub gives_event : {E : Type 0} (n : ℕ) (line : List ℕ) (parts : List ℕ × Option (List ℕ))
    (r : Result (Option WorldEvent) E)
    → n ≤ 255 → parts ≡ cut 32 line → IfOk r (λ e. e ≡ by_word n parts) → IfOk r (IsRead n line)
gives_event n line parts (Ok o) small cuts is = is_read n line parts o small cuts is
gives_event n line parts (Err e) small cuts is = _

pub gives_memory : {E : Type 0} (n : ℕ) (line : List ℕ) (parts : List ℕ × Option (List ℕ))
    (r : Result (Option WorldEvent) E)
    → n ≤ 255 → parts ≡ cut 32 line → OnErr r (IsSubmit (by_word n parts))
    → OnErr r (SpellsSubmit n line)
gives_memory n line parts (Ok o) small cuts is = _
gives_memory n line parts (Err e) small cuts is = needs_memory n line parts small cuts is

-- ---- the events of lines

script_found : (n : ℕ) (es : List WorldEvent) (others : List (List ℕ)) → n ≤ 255
    → AreFit n es → EndsScript n others → events_of n (map spelling es ++ others) ≡ es
script_found n [] [] small fit ends = refl
script_found n [] (line ∷ lines) small fit ends =
    ap (λ o. before o (events_of n lines)) (none_found n line small ends)
script_found n (e ∷ es) others small fit ends =
    ap (λ o. before o (events_of n (map spelling es ++ others))) (event_found n e small fit.0)
    ∙ ap (λ rest. e ∷ rest) (script_found n es others small fit.1 ends)

pub script_alone : (n : ℕ) (lines : List (List ℕ)) (es : List WorldEvent) (others : List (List ℕ))
    → n ≤ 255 → HasEvents n lines es others → events_of n lines ≡ es
script_alone n lines es others small h =
    ap (events_of n) h.parts ∙ script_found n es others small h.fit h.ends

pub script_once : (n : ℕ) (lines : List (List ℕ)) (ds es : List WorldEvent)
    (left rest : List (List ℕ)) → n ≤ 255 → HasEvents n lines ds left → HasEvents n lines es rest
    → (ds ≡ es) × (left ≡ rest)
script_once n lines ds es left rest small a b =
    let same : ds ≡ es =
    sym (script_alone n lines ds left small a) ∙ script_alone n lines es rest small b in (
      same,
      append_cancel_left (map spelling ds) left rest
          (sym a.parts ∙ b.parts ∙ ap (λ x. map spelling x ++ rest) (sym same)),
    )

-- the lines after those that spell the events
pub script_of : (n : ℕ) (lines : List (List ℕ)) → n ≤ 255
    → (others : List (List ℕ)) × HasEvents n lines (events_of n lines) others
script_of n [] small = ([], record { parts = refl; fit = tt; ends = tt })
script_of n (line ∷ lines) small = step (event_of n line) refl (script_of n lines small)
  where
    step : (o : Option WorldEvent) → event_of n line ≡ o
        → ((others : List (List ℕ)) × HasEvents n lines (events_of n lines) others)
        → (others : List (List ℕ))
        × HasEvents n (line ∷ lines) (before o (events_of n lines)) others
    step None is rest =
        (line ∷ lines, record { parts = refl; fit = tt; ends = none_spelled n line small is })
    step (Some e) is rest =
        let s = event_only n line e small is in (
          rest.0,
          record {
            parts = ap (λ x. x ∷ lines) s.1 ∙ ap (λ ls. spelling e ∷ ls) rest.1.parts;
            fit = (s.0, rest.1.fit);
            ends = rest.1.ends;
          },
        )

-- this many lines are left
pub script_length : (n : ℕ) (lines : List (List ℕ)) (es : List WorldEvent) (others : List (List ℕ))
    → HasEvents n lines es others → length lines ≡ length es + length others
script_length n lines es others h =
    ap length h.parts ∙ length-append (map spelling es) others
    ∙ ap (λ k. k + length others) (length-map es spelling)

all_or_not : (all some left : ℕ) → all ≡ some + left → (some == all) ≡ (left == 0)
all_or_not all some zero is =
    let yes : (some == all) ≡ true = grind (arith, nat_tests) in
    yes
all_or_not all some (suc left) is =
    let no : (some == all) ≡ false = grind (arith, nat_tests) in
    let more : (suc left == 0) ≡ false = grind (arith, nat_tests) in
    no ∙ sym more

pub are_all : (n : ℕ) (lines others : List (List ℕ)) → HasEvents n lines (events_of n lines) others
    → are_events n lines ≡ (length others == 0)
are_all n lines others h =
    all_or_not (length lines) (length (events_of n lines)) (length others)
    (script_length n lines (events_of n lines) others h)

-- an event is read of each line
pub all_spelled : (n : ℕ) (lines : List (List ℕ)) → n ≤ 255
    → length (events_of n lines) ≡ length lines → HasEvents n lines (events_of n lines) []
all_spelled n lines small good =
    let all = script_of n lines small in
    let count = script_length n lines (events_of n lines) all.0 all.1 in
    step all.0 all.1 (omega (arith, good, count))
  where
    step : (others : List (List ℕ)) → HasEvents n lines (events_of n lines) others
        → length others ≡ 0 → HasEvents n lines (events_of n lines) []
    step [] h none = h
    step (line ∷ others) h none = absurd (let bad : suc (length others) ≡ 0 = none in cc)
