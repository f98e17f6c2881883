use Rattle.std.proofs.Common.{◌≡◌, ◌∙◌, ◌+◌, ◌++◌, ◌∷◌, [], ℕ, Bool, true, false, List, Option, ap}
use Rattle.std.proofs.Common.{append-nil, cond, slice_get, sym, Result, Ok, Err}
use Rattle.std.specs.{Prelude.OnOk, declared.alloc.AllocError.AllocError}
use Rattle.attempts.specs.declared.Value.{Value}
use Rattle.table_entry_views.specs.declared.notes.CardNote.{CardNote}
use Rattle.table_service.specs.Checks.{change_at, is_left}
use Rattle.table_entry_views.specs.declared.notes.CardNote.TheVariants as note
use Rattle.table_service.proofs.checks.note_change.Goals as goal

module _ (was left : List Value) (place : ℕ) (o p : Option Value) (b : Bool)
    (was_is : o ≡ slice_get was place) (left_is : p ≡ slice_get left place)
    (is : b ≡ is_left o p) where
  changes : (c : Bool) → b ≡ c
      → change_at was left place ≡ cond c [] (note.Changes (place + 1) ∷ [])
  changes c so =
      ap (λ (d : Bool). cond d [] (note.Changes (place + 1) ∷ []))
      (ap (λ (q : Option Value). is_left q (slice_get left place)) (sym was_is)
      ∙ ap (λ (q : Option Value). is_left o q) (sym left_is) ∙ sym is ∙ so)

  put_for : (c : Bool) → b ≡ c → (old new : List CardNote) (r : Result (Unit {0}) AllocError)
      → OnOk r (new ≡ old ++ cond c [] (note.Changes (place + 1) ∷ []))
      → OnOk r (new ≡ old ++ change_at was left place)
  put_for c so old new (Ok done) puts =
      puts ∙ ap (λ (ns : List CardNote). old ++ ns) (sym (changes c so))
  put_for c so old new (Err error) puts = tt

pub returns-then-is_left : goal.returns-then-is_left
returns-then-is_left c =
    sym (append-nil c.args.notes.now.items)
    ∙ ap (λ (ns : List CardNote). c.args.notes.now.items ++ ns) (sym
    (changes c.args.was.now c.args.left.now c.args.place c.value_at.result c.value_at-2.result
    c.is_left.result c.value_at.ensures c.value_at-2.ensures c.is_left.ensures true
    c.if-is_left.true))

pub returns : goal.returns
returns c =
    put_for c.args.was.now c.args.left.now c.args.place c.value_at.result c.value_at-2.result
    c.is_left.result c.value_at.ensures c.value_at-2.ensures c.is_left.ensures false
    c.if-is_left.false c.args.notes.now.items c.put.new.notes.items c.put.result c.put.ensures
