use Rattle.std.proofs.Common.{◌≡◌, true, false, None, Some, All, refl, sym, subst, ap, ◌∙◌}
use Rattle.attempts.specs.Attempts.{IsInRangeOf}
use Rattle.rounds.specs.Rows.{AreValues}
use Rattle.commands.specs.{declared.kept_rounds.KeptRound.KeptRound, Accepted.card_values}
use Rattle.texts.specs.declared.command.Command.TheVariants.{Fix}
use Rattle.commands.specs.model.Cards.{scrambles_of}
use Rattle.commands.proofs.{Lookups.on_err, CardRounds.fix_is, CardSteps.read_twice}
use Rattle.commands.proofs.CardIndex.{dealt, only_room, in_range, fix_answer}
use Rattle.commands.proofs.index.Index.fix.Goals as goal

pub returns-in-Some-fix_fault-clause-code : goal.returns-in-Some-fix_fault-clause-code
returns-in-Some-fix_fault-clause-code c =
    ap Some c.fix_code.ensures
    ∙ fix_answer c.args.accepted.now c.args.self.now c.requires.index c.args.card.now
    c.in-Some.place c.index-kept.result.now c.in-Some.ensures.kept c.index-kept.ensures
    c.requires.known c.in_default-early_refusal.ensures.code c.in_ok-values.values.items
    c.in_ok-values.ensures c.index-kept-2.result.now c.index-kept-2.ensures c.deref.result.now
    c.in_ok-values.values.items c.deref.ensures.value refl (Some c.in-Some-fix_fault.fault)
    c.in-Some-fix_fault.ensures _ refl _ refl

pub returns-then-breaks_with-clause-code : goal.returns-then-breaks_with-clause-code
returns-then-breaks_with-clause-code c =
    fix_answer c.args.accepted.now c.args.self.now c.requires.index c.args.card.now c.in-Some.place
    c.index-kept.result.now c.in-Some.ensures.kept c.index-kept.ensures c.requires.known
    c.in_default-early_refusal.ensures.code c.in_ok-values.values.items c.in_ok-values.ensures
    c.index-kept-2.result.now c.index-kept-2.ensures c.deref.result.now c.deref-2.result.now
    c.deref.ensures.value c.deref-2.ensures.value None c.in_default-fix_fault.ensures
    c.started_with-competitors.result c.started_with-competitors.ensures true
    (sym c.if-breaks_with.true ∙ c.breaks_with.ensures)

pub returns-in_err-make_room-clause-err : goal.returns-in_err-make_room-clause-err
returns-in_err-make_room-clause-err c =
    on_err _
    (only_room c.args.accepted.now c.args.self.now c.requires.index c.args.card.now c.in-Some.place
    c.index_mut-kept.result.now c.in-Some.ensures.kept c.index_mut-kept.ensures.value _
    c.make_room.new.self refl refl c.make_room.ensures.same)

pub fix-requires : goal.fix-requires
fix-requires c =
    let same : c.index-kept.result.now ≡ c.index_mut-kept.result.now =
    read_twice c.args.self.now.rounds.opened.items c.in-Some.place c.index-kept.result.now
    c.index_mut-kept.result.now c.in-Some.ensures.kept.within c.index-kept.ensures
    c.index_mut-kept.ensures.value in
    subst (λ (k : KeptRound). All (IsInRangeOf k.table.unit) c.deref-3.result.now) same
    (subst (All (IsInRangeOf c.index-kept.result.now.table.unit)) (sym c.deref-3.ensures.value)
    (in_range c.args.accepted.now c.args.self.now c.requires.index c.args.card.now c.in-Some.place
    c.index-kept.result.now c.in-Some.ensures.kept c.index-kept.ensures true
    c.in_ok-values.values.items c.requires.card c.in_default-early_refusal.ensures.code
    c.in_default-early_refusal.ensures.seen c.in_ok-values.ensures))

pub returns-in-Ok-clause-code : goal.returns-in-Ok-clause-code
returns-in-Ok-clause-code c =
    fix_answer c.args.accepted.now c.args.self.now c.requires.index c.args.card.now c.in-Some.place
    c.index-kept.result.now c.in-Some.ensures.kept c.index-kept.ensures c.requires.known
    c.in_default-early_refusal.ensures.code c.in_ok-values.values.items c.in_ok-values.ensures
    c.index-kept-2.result.now c.index-kept-2.ensures c.deref.result.now c.deref-2.result.now
    c.deref.ensures.value c.deref-2.ensures.value None c.in_default-fix_fault.ensures
    c.started_with-competitors.result c.started_with-competitors.ensures false
    (sym c.if-breaks_with.false ∙ c.breaks_with.ensures)

pub returns-in-Ok-clause-index : goal.returns-in-Ok-clause-index
returns-in-Ok-clause-index c =
    let same : c.index-kept.result.now ≡ c.index_mut-kept.result.now =
    read_twice c.args.self.now.rounds.opened.items c.in-Some.place c.index-kept.result.now
    c.index_mut-kept.result.now c.in-Some.ensures.kept.within c.index-kept.ensures
    c.index_mut-kept.ensures.value in
    dealt c.args.accepted.now c.args.self.now c.requires.index c.args.card.now c.in-Some.place
    c.index_mut-kept.result.now c.in-Some.ensures.kept c.index_mut-kept.ensures.value
    (Fix c.args.card.now) (fix_is c.args.card.now) _ c.deref-3.result.now c.fix.new.self
    c.make_room.new.self c.note_card.new.self c.as_slice-now.result.now refl refl
    (subst (λ (k : KeptRound). AreValues k.table c.args.card.now.number c.args.card.now.was) same
    c.in_default-early_refusal.ensures.seen) (c.deref-3.ensures.value ∙ c.in_ok-values.ensures
    ∙ ap (λ (k : KeptRound).
    card_values (scrambles_of c.args.accepted.now c.args.card.now.id) c.args.card.now k.settings)
    same) c.in-Ok.ensures.set c.make_room.ensures.same c.as_slice-now.ensures c.note_card.ensures
