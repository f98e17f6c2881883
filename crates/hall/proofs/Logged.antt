-- The logs of a hall as they are written, entry after entry and desk after desk.
use Rattle.std.proofs.Common.{◌≡◌, ℕ, ◌+◌, ◌-◌, ◌≤◌, suc, List, ◌++◌, flat_map, Option, Some, refl}
use Rattle.std.proofs.Common.{sym, ap, ◌∙◌, append_assoc, subst, arith}
use Rattle.std.specs.{Prelude.slice_get, List.range_with_len, Io.KnownBytes.Appends}
use Rattle.std.proofs.KnownBytes.{Appends-trans}
use Rattle.acceptor.specs.declared.entry.Entry.{Entry}
use Rattle.learner.specs.{declared.event.WorldEvent.WorldEvent, Worlds.log_of}
use Rattle.lines.specs.Bytes.{Writes, AppendsPart}
use Rattle.lines.proofs.Inputs.{part_front, part_after, waits_more, part_out}
use Rattle.hall.specs.{Texts.entry_text, Texts.log_text, Halls.logs_text}
use Rattle.hall.proofs.Printed.{entries_text, entries_next}

-- ---- one log

-- the entries in front of a position were printed, and a part of that waits
pub record Logged (d : ℕ) (entries : List Entry) (pos : ℕ) (old new : Option (List ℕ))
    (out : List ℕ) : Type 0 where
  pub text : List ℕ
  pub front : List ℕ
  pub written : Writes old new text front out
  pub whole : text ++ entries_text d pos entries ≡ log_text d entries

pub log_more : (d : ℕ) (entries : List Entry) (pos : ℕ) (x : Entry)
    (old mid new : Option (List ℕ)) (out out' out'' : List ℕ)
    → Logged d entries pos old mid out → slice_get entries pos ≡ Some x
    → out' ≡ out ++ entry_text d pos x → (front : List ℕ) × Writes mid new out' front out''
    → Logged d entries (pos + 1) old new out''
log_more d entries pos x old mid new out out' out'' a is said w =
    let text : a.text ++ entry_text d pos x ≡ a.front ++ out' =
    ap (λ t. t ++ entry_text d pos x) a.written.parts
    ∙ append_assoc a.front out (entry_text d pos x) ∙ ap (λ t. a.front ++ t) (sym said) in
    record {
      text = a.text ++ entry_text d pos x;
      front = a.front ++ w.0;
      written =
          waits_more old mid new (a.text ++ entry_text d pos x) a.front out' w.0 out'' text
          a.written.written w.1;
      whole =
          append_assoc a.text (entry_text d pos x) (entries_text d (pos + 1) entries)
          ∙ ap (λ t. a.text ++ t) (sym (entries_next d pos entries x is)) ∙ a.whole;
    }

-- a part of what is printed so far is a part of the log's text
log_part : (d : ℕ) (entries : List Entry) (pos : ℕ) (old mid new : Option (List ℕ))
    (out : List ℕ) (a : Logged d entries pos old mid out) → AppendsPart old new a.text
    → AppendsPart old new (log_text d entries)
log_part d entries pos old mid new out a part =
    subst (AppendsPart old new) a.whole
    (part_front old new a.text (entries_text d pos entries) part)

-- what waits was not written whole
pub log_unwritten : (d : ℕ) (entries : List Entry) (pos : ℕ) (old mid new : Option (List ℕ))
    (out : List ℕ) → Logged d entries pos old mid out → AppendsPart mid new out
    → AppendsPart old new (log_text d entries)
log_unwritten d entries pos old mid new out a part =
    log_part d entries pos old mid new out a
    (part_out old mid new a.text a.front out a.written part)

-- ---- the logs of all desks

-- the logs from desk d on
abbrev pub logs_from : ℕ → List WorldEvent → ℕ → List ℕ
logs_from n events d = flat_map (λ d. log_text d (log_of n events d)) (range_with_len d (n + 1 - d))

-- the logs of the desks in front of desk d were written
pub record Logs (n : ℕ) (events : List WorldEvent) (d : ℕ) (old new : Option (List ℕ)) : Type 0
  where
    pub text : List ℕ
    pub written : Appends old new text
    pub whole : text ++ logs_from n events d ≡ logs_text n events

logs_next : (n : ℕ) (events : List WorldEvent) (d : ℕ) → d ≤ n
    → logs_from n events d ≡ log_text d (log_of n events d) ++ logs_from n events (d + 1)
logs_next n events d there =
    let count : n + 1 - d ≡ suc (n + 1 - (d + 1)) = omega arith in
    ap (λ k. flat_map (λ d. log_text d (log_of n events d)) (range_with_len d k)) count ∙ refl

pub logs_more : (n : ℕ) (events : List WorldEvent) (d : ℕ) (old mid new : Option (List ℕ))
    → Logs n events d old mid → d ≤ n → Appends mid new (log_text d (log_of n events d))
    → Logs n events (d + 1) old new
logs_more n events d old mid new a there next = record {
  text = a.text ++ log_text d (log_of n events d);
  written = Appends-trans old mid new a.text (log_text d (log_of n events d)) a.written next;
  whole =
      append_assoc a.text (log_text d (log_of n events d)) (logs_from n events (d + 1))
      ∙ ap (λ t. a.text ++ t) (sym (logs_next n events d there)) ∙ a.whole;
}

-- the log of a desk was not written whole
pub logs_cut : (n : ℕ) (events : List WorldEvent) (d : ℕ) (old mid new : Option (List ℕ))
    → Logs n events d old mid → d ≤ n → AppendsPart mid new (log_text d (log_of n events d))
    → AppendsPart old new (logs_text n events)
logs_cut n events d old mid new a there part =
    subst (AppendsPart old new)
    (append_assoc a.text (log_text d (log_of n events d)) (logs_from n events (d + 1))
    ∙ ap (λ t. a.text ++ t) (sym (logs_next n events d there)) ∙ a.whole)
    (part_front old new (a.text ++ log_text d (log_of n events d)) (logs_from n events (d + 1))
    (part_after old mid new a.text (log_text d (log_of n events d)) a.written part))
