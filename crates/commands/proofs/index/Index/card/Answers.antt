use Rattle.std.proofs.Common.{◌≡◌, false, None, Some, All, option_map, refl, sym, subst, ap, ◌∙◌}
use Rattle.std.proofs.Common.{append-nil}
use Rattle.attempts.specs.Attempts.{IsInRangeOf}
use Rattle.rounds.specs.{Rows.AreValues, Tables.set_fault}
use Rattle.commands.specs.{declared.kept_rounds.KeptRound.KeptRound, model.Cards.scrambles_of}
use Rattle.texts.specs.declared.command.Command.TheVariants.{Card}
use Rattle.commands.specs.Accepted.{card_values, set_code}
use Rattle.commands.proofs.{Lookups.on_err, CardRounds.card_is, CardSteps.read_twice}
use Rattle.commands.proofs.CardIndex.{dealt, only_room, in_range, card_late}
use Rattle.commands.proofs.index.Index.card.Goals as goal

pub returns-in_err-make_room-clause-err : goal.returns-in_err-make_room-clause-err
returns-in_err-make_room-clause-err c =
    on_err _
    (only_room c.args.accepted.now c.args.self.now c.requires.index c.args.card.now c.in-Some.place
    c.index_mut-kept.result.now c.in-Some.ensures.kept c.index_mut-kept.ensures.value _
    c.make_room.new.self refl refl c.make_room.ensures.same)

pub set-requires : goal.set-requires
set-requires c =
    let same : c.index-kept.result.now ≡ c.index_mut-kept.result.now =
    read_twice c.args.self.now.rounds.opened.items c.in-Some.place c.index-kept.result.now
    c.index_mut-kept.result.now c.in-Some.ensures.kept.within c.index-kept.ensures
    c.index_mut-kept.ensures.value in
    subst (λ (k : KeptRound). All (IsInRangeOf k.table.unit) c.deref.result.now) same
    (subst (All (IsInRangeOf c.index-kept.result.now.table.unit)) (sym c.deref.ensures.value)
    (in_range c.args.accepted.now c.args.self.now c.requires.index c.args.card.now c.in-Some.place
    c.index-kept.result.now c.in-Some.ensures.kept c.index-kept.ensures false
    c.in_ok-values.values.items c.requires.card c.in_default-early_refusal.ensures.code
    c.in_default-early_refusal.ensures.seen c.in_ok-values.ensures))

pub returns-in-Ok-clause-code : goal.returns-in-Ok-clause-code
returns-in-Ok-clause-code c =
    let same : c.index-kept.result.now ≡ c.index_mut-kept.result.now =
    read_twice c.args.self.now.rounds.opened.items c.in-Some.place c.index-kept.result.now
    c.index_mut-kept.result.now c.in-Some.ensures.kept.within c.index-kept.ensures
    c.index_mut-kept.ensures.value in
    card_late c.args.accepted.now c.args.self.now c.requires.index c.args.card.now c.in-Some.place
    c.index-kept.result.now c.in-Some.ensures.kept c.index-kept.ensures c.requires.known
    c.in_default-early_refusal.ensures.code c.deref.result.now
    (c.deref.ensures.value ∙ c.in_ok-values.ensures) None (ap (option_map set_code)
    (sym c.in-Ok.ensures.allowed
    ∙ ap (λ (k : KeptRound). set_fault k.table c.args.card.now.number c.deref.result.now)
    (sym same)))

pub returns-in-Ok-clause-index : goal.returns-in-Ok-clause-index
returns-in-Ok-clause-index c =
    let same : c.index-kept.result.now ≡ c.index_mut-kept.result.now =
    read_twice c.args.self.now.rounds.opened.items c.in-Some.place c.index-kept.result.now
    c.index_mut-kept.result.now c.in-Some.ensures.kept.within c.index-kept.ensures
    c.index_mut-kept.ensures.value in
    dealt c.args.accepted.now c.args.self.now c.requires.index c.args.card.now c.in-Some.place
    c.index_mut-kept.result.now c.in-Some.ensures.kept c.index_mut-kept.ensures.value
    (Card c.args.card.now) (card_is c.args.card.now) _ c.deref.result.now c.set.new.self
    c.make_room.new.self c.note_card.new.self c.as_slice-now.result.now refl refl
    (subst (λ (k : KeptRound). AreValues k.table c.args.card.now.number c.args.card.now.was) same
    c.in_default-early_refusal.ensures.seen) (c.deref.ensures.value ∙ c.in_ok-values.ensures
    ∙ ap (λ (k : KeptRound).
    card_values (scrambles_of c.args.accepted.now c.args.card.now.id) c.args.card.now k.settings)
    same) c.in-Ok.ensures.set c.make_room.ensures.same c.as_slice-now.ensures c.note_card.ensures

pub returns-clause-code : goal.returns-clause-code
returns-clause-code c =
    let same : c.index-kept.result.now ≡ c.index_mut-kept.result.now =
    read_twice c.args.self.now.rounds.opened.items c.in-Some.place c.index-kept.result.now
    c.index_mut-kept.result.now c.in-Some.ensures.kept.within c.index-kept.ensures
    c.index_mut-kept.ensures.value in
    card_late c.args.accepted.now c.args.self.now c.requires.index c.args.card.now c.in-Some.place
    c.index-kept.result.now c.in-Some.ensures.kept c.index-kept.ensures c.requires.known
    c.in_default-early_refusal.ensures.code c.deref.result.now
    (c.deref.ensures.value ∙ c.in_ok-values.ensures) _ (ap Some c.set_code.ensures
    ∙ ap (option_map set_code) (sym c.in-Err.ensures.refused
    ∙ ap (λ (k : KeptRound). set_fault k.table c.args.card.now.number c.deref.result.now)
    (sym same)))

pub returns-clause-index : goal.returns-clause-index
returns-clause-index c =
    rw (append-nil c.args.accepted.now)
    (only_room c.args.accepted.now c.args.self.now c.requires.index c.args.card.now c.in-Some.place
    c.index_mut-kept.result.now c.in-Some.ensures.kept c.index_mut-kept.ensures.value _
    c.make_room.new.self refl (rw c.in-Err.ensures.unchanged refl) c.make_room.ensures.same)
