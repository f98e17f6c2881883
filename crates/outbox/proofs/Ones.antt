-- Of an id a journal has one line at most.
use Rattle.std.proofs.Common.{◌≡◌, ◌∙◌, ℕ, List, [], ◌∷◌, inl, inr, arith, sym, ap, subst}
use Rattle.std.specs.{Prelude.Contains, Prelude.nat_eq, Map.lookup}
use Rattle.acceptor.specs.declared.entry.Entry.{Entry}
use Rattle.wire.specs.Entries.{IsEntry}
use Rattle.outbox.specs.{declared.item.Item.Item, Items.no_items, Laws.SaysOneEach}
use Rattle.outbox.{specs.Histories.PromisesOf, specs.Histories.World, proofs.Reading.line_read}
use Rattle.outbox.specs.Lines.{HallOf, hall_line, item_line, whole_lines}
use Rattle.outbox.proofs.{Lists.contains_cases, Reading.IsIn, Sound.IsSound, Spelled.said_entry}

-- the first line says no item
abbrev first_of : List ℕ → ℕ
first_of [] = 0
first_of (byte ∷ bytes) = byte

not_hall : (hall : HallOf) (entry : Entry) → hall_line hall ≡ item_line entry → ⊥
not_hall hall entry e =
    let bytes : 104 ≡ 105 = ap first_of e in
    absurd (omega (arith, bytes))

module _ (hall : HallOf) (desks : List ℕ) (p : PromisesOf) (w : World)
    (s : IsSound hall desks p w) where
  -- an entry whose line is in the file is read from it
  in_file : (entry : Entry) → IsEntry entry → Contains (whole_lines w.file) (item_line entry)
      → IsIn s.step.file.left.items entry
  in_file entry is there =
      let read = said_entry entry is.0.0 is.0.1 is.1 in
      elim (contains_cases (hall_line hall) s.tail (item_line entry)
      (subst (λ lines. Contains lines (item_line entry)) s.named there)) [
        | inl first ↦ absurd (not_hall hall entry first)
        | inr later ↦
            line_read 0 entry read no_items s.step.file.left 2 s.tail s.step.file.reads (inr later)
      ]

  pub one_each : SaysOneEach w.file
  one_each entry other is too there here same =
      let items = s.step.file.left.items in
      let a = in_file entry is there in
      let b = in_file other too here in
      let found =
      sym a.found ∙ ap (λ (id : ℕ). lookup (nat_eq id) items) same ∙ b.found in
      let one : a.item ≡ b.item = cc in
      sym a.is ∙ ap (λ (item : Item). item.entry) one ∙ b.is
