-- The next item is submitted.
use Rattle.std.proofs.Common.{◌≡◌, ℕ, zero, suc, ◌<◌, Bool, true, false, List, [], ◌∷◌, take, drop}
use Rattle.std.proofs.Common.{slice_get, Option, Some, None, refl, sym, ap, ◌∙◌, arith, subst}
use Rattle.acceptor.specs.declared.entry.Entry.{Entry}
use Rattle.wire.specs.declared.frame.Frame.{Frame}
use Rattle.desk_talks.specs.KeptConnections.{AsksOver, KeptConnectionOf}
use Rattle.outbox.specs.{declared.item.Item.Item, Outboxes.with_line}
use Rattle.outbox.specs.Outboxes.{AsksNext, IsEntryAt, OutboxOf, kept_from, submit_request}

kept_front : (items : List (ℕ × Item)) (kept next : ℕ) (pair : ℕ × Item) → next < kept
    → slice_get items next ≡ Some pair
    → drop next (take kept items) ≡ pair ∷ drop (suc next) (take kept items)
kept_front [] zero next pair less is = absurd (omega (arith, less))
kept_front [] (suc kept) zero pair less is = absurd cc
kept_front [] (suc kept) (suc next) pair less is = absurd cc
kept_front (x ∷ items) zero next pair less is = absurd (omega (arith, less))
kept_front (x ∷ items) (suc kept) zero pair less is =
    let same : x ≡ pair = cc in ap (λ y. y ∷ take kept items) same
kept_front (x ∷ items) (suc kept) (suc next) pair less is =
    kept_front items kept next pair (omega (arith, less)) is

asks_left : (left : List (ℕ × Item)) (pair : ℕ × Item) (more : List (ℕ × Item)) (now : ℕ)
    (old : OutboxOf) (line : KeptConnectionOf) → left ≡ pair ∷ more
    → AsksOver true now (submit_request old.hall old.desk pair.1.entry) old.line line
    → AsksNext left now old (with_line old line)
asks_left left pair more now old line is asks =
    subst (λ (z : List (ℕ × Item)). AsksNext z now old (with_line old line)) (sym is)
    (line, asks, refl)

asks_true : (asked : Bool) (now : ℕ) (question other : Frame) (old new : KeptConnectionOf)
    → asked ≡ true → question ≡ other → AsksOver asked now question old new
    → AsksOver true now other old new
asks_true true now question other old new e is h =
    subst (λ z. AsksOver true now z old new) is h
asks_true false now question other old new e is h = absurd cc

pub asks_next : (asked : Bool) (now : ℕ) (entry : Entry) (question : Frame) (old : OutboxOf)
    (line : KeptConnectionOf) → asked ≡ true → old.next < old.list.kept
    → IsEntryAt (slice_get old.list.items old.next) entry
    → question ≡ submit_request old.hall old.desk entry → AsksOver asked now question old.line line
    → AsksNext (kept_from old.list old.next) now old (with_line old line)
asks_next asked now entry question old line e less at asks over =
    go (slice_get old.list.items old.next) refl at
  where
    go : (there : Option (ℕ × Item)) → slice_get old.list.items old.next ≡ there
        → IsEntryAt there entry
        → AsksNext (kept_from old.list old.next) now old (with_line old line)
    go None is none = absurd none
    go (Some pair) is same =
        asks_left (kept_from old.list old.next) pair
        (drop (suc old.next) (take old.list.kept old.list.items)) now old line
        (kept_front old.list.items old.list.kept old.next pair less is)
        (asks_true asked now question (submit_request old.hall old.desk pair.1.entry) old.line line
        e (asks ∙ ap (submit_request old.hall old.desk) same) over)
