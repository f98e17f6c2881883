-- Lists of which each command is accepted.
use Rattle.std.proofs.Common.{◌≡◌, ℕ, Bool, true, false, ◌&&◌, cond, nat_le, is_some, List, [], ◌∷◌}
use Rattle.std.proofs.Common.{◌++◌, fold, Option, Some, None, Result, Ok, Err, refl, sym, ap, ◌∙◌}
use Rattle.std.proofs.Common.{subst, append_assoc, append-nil}
use Rattle.std.specs.Option.{option_or}
use Rattle.texts.specs.declared.{answer.Code.Code, reading.CommandFault.CommandFault}
use Rattle.texts.specs.declared.command.{Command.Command, RemarkedCommand.RemarkedCommand}
use Rattle.texts.specs.Editions.{edition_of, has_name_in, remark_edition}
use Rattle.texts.specs.Reading.{command_of}
use Rattle.commands.specs.Accepted.{edition_in, refusal}
use Rattle.commands.specs.History.{History, nothing, is_seen, added, added_read, knows}
use Rattle.commands.specs.History.{spelled_refusal, read_refusal_in, after_in}
use Rattle.commands.proofs.Lookups.{or_assoc, some≢none}
use Rattle.card_laws.specs.Accepting.{first_refusal, AreAccepted, LogsAreAccepted}
use Rattle.texts.specs.declared.answer.Code.TheVariants as code

pub none_first : (a b : Option Code) → option_or a b ≡ None → a ≡ None
none_first None b h = refl
none_first (Some c) b h = absurd (some≢none c h)

pub none_second : (a b : Option Code) → option_or a b ≡ None → b ≡ None
none_second None b h = h
none_second (Some c) b h = absurd (some≢none c h)

-- what is refused first of one list and another
first_of_both : (cs ds es : List Command)
    → first_refusal cs (ds ++ es) ≡ option_or (first_refusal cs ds) (first_refusal (cs ++ ds) es)
first_of_both cs [] es = ap (λ (xs : List Command). first_refusal xs es) (sym (append-nil cs))
first_of_both cs (d ∷ ds) es =
    ap (option_or (refusal cs d)) (first_of_both (cs ++ d ∷ []) ds es) ∙ or_assoc (refusal cs d)
    (first_refusal (cs ++ d ∷ []) ds) (first_refusal ((cs ++ d ∷ []) ++ ds) es) ∙ rw
    (append_assoc cs (d ∷ []) ds) refl

-- the others are accepted after those in front
accepted_later : (cs ds es : List Command) → AreAccepted cs (ds ++ es) → AreAccepted (cs ++ ds) es
accepted_later cs ds es h =
    none_second (first_refusal cs ds) (first_refusal (cs ++ ds) es)
    (sym (first_of_both cs ds es) ∙ h)

pub accepted_front : (cs ds es : List Command) → AreAccepted cs (ds ++ es) → AreAccepted cs ds
accepted_front cs ds es h =
    none_first (first_refusal cs ds) (first_refusal (cs ++ ds) es)
    (sym (first_of_both cs ds es) ∙ h)

-- and one of them is
pub accepted_one : (cs ds es : List Command) (d : Command) → AreAccepted cs (ds ++ d ∷ es)
    → refusal (cs ++ ds) d ≡ None
accepted_one cs ds es d h =
    none_first (refusal (cs ++ ds) d) (first_refusal ((cs ++ ds) ++ d ∷ []) es)
    (accepted_later cs ds (d ∷ es) h)

-- Logs

-- what is accepted of what was read
own_checks : (k : ℕ) (cs : List Command) (c : RemarkedCommand) → read_refusal_in k cs (Ok c) ≡ None
    → refusal cs c.command ≡ None
own_checks k cs c h = known (knows k c.command) h
  where
    spelled : (b : Bool) → cond b (refusal cs c.command) (Some code.Unread) ≡ None
        → refusal cs c.command ≡ None
    spelled true h = h
    spelled false h = absurd (some≢none code.Unread h)

    known : (b : Bool) → cond b (spelled_refusal cs c) (Some code.Unread) ≡ None
        → refusal cs c.command ≡ None
    known true h =
        spelled (has_name_in (edition_in cs) c.command
        && nat_le (edition_of c.command) (edition_in cs)
        && nat_le (remark_edition (is_some c.remark)) (edition_in cs)) h
    known false h = absurd (some≢none code.Unread h)

-- what a command that is accepted keeps, each entry keeps
kept_read : (P : List Command → Type 0)
    → ((cs : List Command) (c : Command) → refusal cs c ≡ None → P cs → P (cs ++ c ∷ []))
    → (k : ℕ) (cs : List Command) (r : Result RemarkedCommand CommandFault) → P cs
    → P (cs ++ added_read (read_refusal_in k cs r) r)
kept_read P keeps k cs (Err fault) h = subst P (sym (append-nil cs)) h
kept_read P keeps k cs (Ok c) h = step (read_refusal_in k cs (Ok c)) refl
  where
    step : (o : Option Code) → read_refusal_in k cs (Ok c) ≡ o → P (cs ++ added o c.command)
    step None is = keeps cs c.command (own_checks k cs c is) h
    step (Some why) is = subst P (sym (append-nil cs)) h

pub kept_after : (P : List Command → Type 0)
    → ((cs : List Command) (c : Command) → refusal cs c ≡ None → P cs → P (cs ++ c ∷ []))
    → (k : ℕ) (h : History) (id : ℕ) (text : List ℕ) → P h.accepted
    → P (after_in k h id text).accepted
unfolding after_in
kept_after P keeps k h id text are = step (is_seen h id)
  where
    new : History
    new = record {
      ids = h.ids ++ id ∷ [];
      accepted =
          h.accepted
          ++ added_read (read_refusal_in k h.accepted (command_of text)) (command_of text);
    }

    step : (b : Bool) → P (cond b h new).accepted
    step true = are
    step false = kept_read P keeps k h.accepted (command_of text) are

accepts : (cs : List Command) (c : Command) → refusal cs c ≡ None → AreAccepted [] cs
    → AreAccepted [] (cs ++ c ∷ [])
accepts cs c is h = first_of_both [] cs (c ∷ []) ∙ rw (h, is) refl

accepted_fold : (k : ℕ) (h : History) (entries : List (ℕ × List ℕ)) → AreAccepted [] h.accepted
    → AreAccepted []
    (fold (λ (x : History) (entry : ℕ × List ℕ). after_in k x entry.0 entry.1) h entries).accepted
accepted_fold k h [] are = are
accepted_fold k h (entry ∷ entries) are =
    accepted_fold k (after_in k h entry.0 entry.1) entries
    (kept_after (AreAccepted []) accepts k h entry.0 entry.1 are)

pub logs_are_accepted : LogsAreAccepted
logs_are_accepted k entries cs ds is =
    accepted_later [] cs ds (subst (AreAccepted []) is (accepted_fold k nothing entries refl))
