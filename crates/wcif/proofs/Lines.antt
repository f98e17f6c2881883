-- A desk that was empty does the lines of an import, whatever their ids, and no command has a line
-- feed in it.
use Rattle.std.proofs.Common.{◌≡◌, ◌==◌, ℕ, Bool, false, List, [], ◌∷◌, ◌++◌, map, refl, ap, sym}
use Rattle.std.proofs.Common.{◌∙◌, subst, arith, append_assoc, append-nil, ◌≤◌, true, not, Option}
use Rattle.std.{proofs.Common.Some, proofs.lemmas.Bool.Decides.nat_tests, specs.Char.is_ascii_digit}
use Rattle.std.specs.Prelude.{fold, None, Ok, codes, decimal}
use Rattle.std.specs.List.{list_any, AllByRecursion, list_all, slice_split, join_with_byte}
use Rattle.std.proofs.lemmas.List.Elements.{recursion_from_All, All-from_recursion}
use Rattle.std.proofs.lemmas.List.{Folds.list_any-append, Splits.slice_split_at}
use Rattle.texts.specs.{declared.command.Command.Command, Reading.told, Fields.round_id, Table.rows}
use Rattle.texts.{specs.Reading.command_of, proofs.Words.spelled_found, proofs.Words.spelling_short}
use Rattle.texts.specs.Spelling.{IsFit, spelling, IsFitCutoff, IsFitLimit, IsFitAdvance, words_of}
use Rattle.texts.specs.Spelling.{cutoff_text, limit_text, advance_text}
use Rattle.commands.specs.History.{History, nothing, after, is_seen}
use Rattle.commands.proofs.Entries.{after_done, answer_done, grown}
use Rattle.wcif.specs.Commands.{commands_of, beginning, edition_number}
use Rattle.wcif.specs.Laws.{AreAccepted, AreDone, HaveOwnIds, DoesAllLines, PrintsWholeLines}
use Rattle.wcif.proofs.Together.{fit, accepts_all, HoldsOfEach, each_command}
use Rattle.wcif.{proofs.Found.or_left, proofs.Found.or_right, specs.Lines.lines}
use Rattle.formats.specs.declared.events.Event.{Event, TheVariants.Cube3}
use Rattle.formats.specs.declared.events.Format.{Format, TheVariants.Ao5}
use Rattle.formats.specs.{declared.advance.Advance.Advance, Events.event_name, Events.format_name}
use Rattle.formats.specs.declared.advance.Advance.TheVariants.{Final, Top, Percent}
use Rattle.texts.specs.Names.{has_single_spaces, is_name_byte, is_clear_name}
use Rattle.texts.specs.declared.command.Command.TheVariants.{Register, Open, Enter}
use Rattle.texts.proofs.{Cuts.lacks, Cuts.and-true, FieldSpellings.decimal_digits}
use Rattle.wcif.specs.declared.options.Edition.{Edition, TheVariants.Three, TheVariants.Four}

swapped : (m n : ℕ) → (m == n) ≡ false → (n == m) ≡ false
swapped m n other = grind (arith, nat_tests)

-- ids that are not seen stay so after another id
unseen : (h : History) (id : ℕ) (c : Command) (entries : List (ℕ × List ℕ))
    → list_any (λ entry. is_seen h entry.0) entries ≡ false
    → list_any (λ entry. id == entry.0) entries ≡ false
    → list_any (λ entry. is_seen (grown h id c) entry.0) entries ≡ false
unseen h id c [] seen other = refl
unseen h id c (entry ∷ entries) seen other =
    rw (
      list_any-append (λ x. entry.0 == x) h.ids (id ∷ []),
      or_left (is_seen h entry.0) _ seen,
      swapped id entry.0 (or_left (id == entry.0) _ other),
    )
    (unseen h id c entries (or_right (is_seen h entry.0) _ seen) (or_right (id == entry.0) _ other))

-- what the entries come to
record AllDone (h : History) (entries : List (ℕ × List ℕ)) (cs : List Command) : Type 0 where
  done : AreDone h entries
  accepted : (fold (λ x entry. after x entry.0 entry.1) h entries).accepted ≡ h.accepted ++ cs

all_done : (h : History) (entries : List (ℕ × List ℕ)) (cs : List Command)
    → AreAccepted h.accepted cs → AllByRecursion IsFit cs → HaveOwnIds entries
    → list_any (λ entry. is_seen h entry.0) entries ≡ false
    → map (λ entry. entry.1) entries ≡ map spelling cs → AllDone h entries cs
all_done h [] [] accepted fits own seen same =
    record { done = tt; accepted = sym (append-nil h.accepted) }
all_done h [] (c ∷ cs) accepted fits own seen same = absurd (cc)
all_done h (entry ∷ entries) [] accepted fits own seen same = absurd (cc)
all_done h (entry ∷ entries) (c ∷ cs) accepted fits own seen same =
    let text : entry.1 ≡ spelling c = cc in
    let texts : map (λ e. e.1) entries ≡ map spelling cs = cc in
    let reads : command_of entry.1 ≡ Ok (told None c) =
    ap command_of text ∙ spelled_found (told None c) (fits.0, tt, spelling_short c fits.0) in
    let new : is_seen h entry.0 ≡ false = or_left (is_seen h entry.0) _ seen in
    let next = after_done h entry.0 entry.1 (told None c) new reads accepted.0 in
    let rest = all_done (grown h entry.0 c) entries cs accepted.1 fits.1 own.1
    (unseen h entry.0 c entries (or_right (is_seen h entry.0) _ seen) own.0) texts in
    record {
      done = (
        answer_done h entry.0 entry.1 (told None c) new reads accepted.0,
        subst (λ x. AreDone x entries) (sym next) rest.done,
      );
      accepted =
          ap (λ x. (fold (λ y e. after y e.0 e.1) x entries).accepted) next ∙ rest.accepted
          ∙ append_assoc h.accepted (c ∷ []) cs;
    }

none_seen : (entries : List (ℕ × List ℕ))
    → list_any (λ entry. is_seen nothing entry.0) entries ≡ false
none_seen [] = refl
none_seen (entry ∷ entries) = none_seen entries

pub does_all : DoesAllLines
does_all options persons events none entries own texts =
    let all = all_done nothing entries (commands_of options persons events)
    (accepts_all options persons events none) (recursion_from_All IsFit
    (commands_of options persons events) (fit options persons events none)) own (none_seen entries)
    texts in
    (all.done, all.accepted)

-- a text of bytes that pass a test has no line feed where a line feed does not pass
lacks_by : (p : ℕ → Bool) → ((b : ℕ) → p b ≡ true → not (b == 10) ≡ true) → (bytes : List ℕ)
    → list_all p bytes ≡ true → lacks 10 bytes ≡ true
lacks_by p other [] h = refl
lacks_by p other (b ∷ bytes) h =
    let both = and-true (p b) (list_all p bytes) h in
    rw (other b both.0, lacks_by p other bytes both.1) refl

lacks_both : (xs ys : List ℕ) → lacks 10 xs ≡ true → lacks 10 ys ≡ true → lacks 10 (xs ++ ys) ≡ true
lacks_both [] ys front back = back
lacks_both (x ∷ xs) ys front back =
    let both = and-true (not (x == 10)) (lacks 10 xs) front in
    rw (both.0, lacks_both xs ys both.1 back) refl

digit_other : (b : ℕ) → is_ascii_digit b ≡ true → not (b == 10) ≡ true
digit_other b h = grind (arith, nat_tests)

number_lacks : (n : ℕ) → n ≤ 360000 → lacks 10 (decimal n) ≡ true
number_lacks n small =
    lacks_by is_ascii_digit digit_other (decimal n) (decimal_digits n (omega arith))

name_byte_other : (b : ℕ) → is_name_byte b ≡ true → not (b == 10) ≡ true
name_byte_other b h = grind (arith, nat_tests)

name_lacks : (name : List ℕ) → is_clear_name name ≡ true → lacks 10 name ≡ true
unfolding is_clear_name
name_lacks name is =
    lacks_by is_name_byte name_byte_other name
    (and-true _ (list_all is_name_byte name) (and-true _ (has_single_spaces name) is).0).1

event_lacks : (e : Event) → lacks 10 (event_name e) ≡ true
event_lacks Cube3 = refl
event_lacks _ = refl

format_lacks : (f : Format) → lacks 10 (format_name f) ≡ true
format_lacks Ao5 = refl
format_lacks _ = refl

cutoff_lacks : (c : Option (ℕ × ℕ)) → IsFitCutoff c → lacks 10 (cutoff_text c) ≡ true
cutoff_lacks None fits = refl
cutoff_lacks (Some c) fits =
    lacks_both (decimal c.0 ++ codes ":") (decimal c.1)
    (lacks_both (decimal c.0) (codes ":") (number_lacks c.0 (omega arith)) refl)
    (number_lacks c.1 (omega arith))

limit_lacks : (l : Option ℕ) → IsFitLimit l → lacks 10 (limit_text l) ≡ true
limit_lacks None fits = refl
limit_lacks (Some l) fits = number_lacks l fits.1

advance_lacks : (a : Advance) → IsFitAdvance a → lacks 10 (advance_text a) ≡ true
advance_lacks Final fits = refl
advance_lacks (Top n) fits =
    lacks_both (codes "top:") (decimal n) refl (number_lacks n (omega arith))
advance_lacks (Percent n) fits =
    lacks_both (codes "pct:") (decimal n) refl (number_lacks n (omega arith))

abbrev Plain : List ℕ → Type 0
Plain word = lacks 10 word ≡ true

-- words with a space between each two
joined : (words : List (List ℕ)) → AllByRecursion Plain words
    → lacks 10 (join_with_byte 32 words) ≡ true
joined [] plain = refl
joined (word ∷ []) plain = plain.0
joined (word ∷ next ∷ words) plain =
    lacks_both word (32 ∷ join_with_byte 32 (next ∷ words)) plain.0 (joined (next ∷ words) plain.1)

abbrev HasOneLine : Command → Type 0
HasOneLine c = lacks 10 (spelling c) ≡ true

few_editions : (e : Edition) → edition_number e ≤ 360000
few_editions Three = omega arith
few_editions Four = omega arith

one_line : HoldsOfEach HasOneLine
unfolding rows
one_line = record {
  edition =
      λ e. joined (words_of (beginning e))
      (refl, (number_lacks (edition_number e) (few_editions e), tt));
  registration =
      λ n name fits. joined (words_of (Register n name))
      (refl, (number_lacks n (omega arith), (name_lacks name fits.1, tt)));
  opening =
      λ e s fits.
      joined (words_of (Open (round_id e 1) s)) (
        refl,
        (
          event_lacks e,
          (
            number_lacks 1 (omega arith),
            (
              format_lacks s.format,
              (
                cutoff_lacks s.cutoff fits.0.1.1.1.0,
                (
                  limit_lacks s.limit fits.0.1.1.1.1.0,
                  (advance_lacks s.advance fits.0.1.1.1.1.1.0, tt),
                ),
              ),
            ),
          ),
        ),
      );
  entry =
      λ e n fits. joined (words_of (Enter e n))
      (refl, (event_lacks e, (number_lacks n (omega (arith, fits.0.1.0.1)), tt)));
}

not_there : (bytes : List ℕ) → lacks 10 bytes ≡ true → AllByRecursion (λ b. (b == 10) ≡ false) bytes
not_there [] h = tt
not_there (b ∷ bytes) h =
    let both = and-true (not (b == 10)) (lacks 10 bytes) h in
    (negated (b == 10) both.0, not_there bytes both.1)
  where
    negated : (a : Bool) → not a ≡ true → a ≡ false
    negated false h = refl
    negated true h = absurd (cc)

-- each line ends where the spelling of its command does
split_lines : (cs : List Command) → AllByRecursion HasOneLine cs
    → slice_split (λ b. b == 10) (lines cs) ≡ map spelling cs ++ [] ∷ []
split_lines [] each = refl
split_lines (c ∷ cs) each =
    ap (slice_split (λ b. b == 10)) (append_assoc (spelling c) (codes "\n") (lines cs))
    ∙ slice_split_at (λ b. b == 10) (spelling c) 10 (lines cs)
    (All-from_recursion (λ b. (b == 10) ≡ false) (spelling c) (not_there (spelling c) each.0)) refl
    ∙ ap (λ rest. spelling c ∷ rest) (split_lines cs each.1)

pub whole_lines : PrintsWholeLines
whole_lines options persons events none =
    split_lines (commands_of options persons events)
    (each_command HasOneLine one_line options persons events none)
