use Rattle.std.proofs.Common.{◌≡◌, ℕ, None, Some, is_some, sym, ◌∙◌, ap}
use Rattle.std.specs.{HashMap.get, Option.option_copied_mut, Prelude.nat_eq}
use Rattle.std.proofs.lemmas.Bool.{false≢true}
use Rattle.commands.proofs.CardSteps.{noted_after, noted_still}
use Rattle.commands.proofs.solutions.Solutions.note_card.Goals as goal

pub returns-in-Some : goal.returns-in-Some
returns-in-Some c n k low =
    let has : Some c.in-Some.row.now ≡ get nat_eq c.args.self.now.by_number c.args.number =
    c.in-Some.ensures.value in
    noted_after c.args.now.now c.args.number n k (get nat_eq c.args.self.now.by_number n) _
    c.in-Some.row.now c.note_row.new.row low
    (((c.get_mut.follows.holds c.note_row.new.row).3 (ap is_some (sym has))).0 n) (λ same.
    ap (λ (m : ℕ). get nat_eq c.args.self.now.by_number m) (sym same) ∙ sym has) c.note_row.ensures

pub returns-in_default : goal.returns-in_default
returns-in_default c n k low =
    let none : None ≡ get nat_eq c.args.self.now.by_number c.args.number =
    ap option_copied_mut (sym c.in_default.is) ∙ c.get_mut.ensures.value in
    noted_still c.args.now.now c.args.number n k (get nat_eq c.args.self.now.by_number n) _
    (ap (λ m. get nat_eq m n) c.get_mut.follows.holds-at-none) (λ same.
    ap (λ (m : ℕ). get nat_eq c.args.self.now.by_number m) (sym same) ∙ sym none)
    (λ solved. false≢true (ap is_some none ∙ c.requires.room solved))
