-- Sheets after a card, and after its attempts.
use Rattle.std.proofs.Common.{◌≡◌, ◌∙◌, ℕ, suc, List, [], ◌∷◌, ◌++◌, refl, sym, ap, append_assoc}
use Rattle.std.proofs.Common.{append-nil}
use Rattle.formats.specs.declared.events.Event.{Event}
use Rattle.texts.specs.declared.command.{Command.Command, RoundId.RoundId, Entered.Entered}
use Rattle.texts.specs.declared.command.Command.TheVariants.{Attempt, Card}
use Rattle.texts.specs.Fields.{attempt_entry}
use Rattle.commands.specs.Accepted.{name_given, renaming, name_of, round_of}
use Rattle.commands.proofs.Lookups.{standing_kept}
use Rattle.sheets.proofs.Alike.{AreNamedAlike, before_of, before_kept, seen_alike, sheets_alike}
use Rattle.card_laws.specs.OverNothing.{CardPrintsAsAttempts, attempts_from, first_card}
use Rattle.card_laws.proofs.Outcomes.{card_is_attempts}

-- attempts open no round
attempts_before : (cs : List Command) (id : RoundId) (n k : ℕ) (xs : List Entered) (e : Event)
    (r : ℕ) → before_of (cs ++ attempts_from id n k xs) e r ≡ before_of cs e r
attempts_before cs id n k [] e r = ap (λ (ds : List Command). before_of ds e r) (append-nil cs)
attempts_before cs id n k (x ∷ xs) e r =
    rw
    (sym (append_assoc cs (Attempt (attempt_entry id k n x) ∷ []) (attempts_from id n (suc k) xs)))
    (attempts_before (cs ++ Attempt (attempt_entry id k n x) ∷ []) id n (suc k) xs e r
    ∙ before_kept cs (Attempt (attempt_entry id k n x)) e r refl)

-- and give nobody a name
attempts_name : (cs : List Command) (id : RoundId) (n k : ℕ) (xs : List Entered) (m : ℕ)
    → name_of (cs ++ attempts_from id n k xs) m ≡ name_of cs m
attempts_name cs id n k [] m = ap (λ (ds : List Command). name_of ds m) (append-nil cs)
attempts_name cs id n k (x ∷ xs) m =
    rw
    (sym (append_assoc cs (Attempt (attempt_entry id k n x) ∷ []) (attempts_from id n (suc k) xs)))
    (attempts_name (cs ++ Attempt (attempt_entry id k n x) ∷ []) id n (suc k) xs m ∙ standing_kept
    (name_given m) (renaming m) cs (Attempt (attempt_entry id k n x)) refl refl)

-- nor does a card
card_names : (cs : List Command) (id : RoundId) (n : ℕ) (xs : List Entered)
    → AreNamedAlike (cs ++ Card (first_card id n xs) ∷ []) (cs ++ attempts_from id n 1 xs)
card_names cs id n xs m =
    standing_kept (name_given m) (renaming m) cs (Card (first_card id n xs)) refl refl
    ∙ sym (attempts_name cs id n 1 xs m)

pub card_prints_as_attempts : CardPrintsAsAttempts
card_prints_as_attempts style cs id n xs event round position bare =
    sheets_alike one many (card_names cs id n xs) style event round position same
    (seen_alike one many event round same
    (before_kept cs (Card (first_card id n xs)) event (suc round) refl
    ∙ sym (attempts_before cs id n 1 xs event (suc round))))
  where
    one : List Command
    one = cs ++ Card (first_card id n xs) ∷ []

    many : List Command
    many = cs ++ attempts_from id n 1 xs

    same : round_of one event round ≡ round_of many event round
    same = card_is_attempts cs id n xs event round bare
