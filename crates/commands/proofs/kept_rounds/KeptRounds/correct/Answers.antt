use Rattle.std.{proofs.Common.refl, proofs.Common.sym, specs.Option.option_copied}
use Rattle.commands.specs.{Accepted.correct_refusal, model.Kept.with_correction}
use Rattle.commands.proofs.Lookups.{on_err}
use Rattle.commands.proofs.SettledLemmas.{entered_to, as_before_to, value_is}
use Rattle.commands.proofs.kept_rounds.KeptRounds.correct.Goals as goal

pub returns-in-Ok-correct-clause-done : goal.returns-in-Ok-correct-clause-done
returns-in-Ok-correct-clause-done c =
    let found = c.in-Ok.found in
    entered_to c.args.entry.now (option_copied c.args.scramble) c.args.self.now found.0 found.1
    c.in-Ok.ensures.settled c.index_mut-kept.result.now c.index_mut-kept.ensures.value
    c.correct.new.self c.make_room.new.self c.note.new.self c.is_solution-solved.result
    (with_correction c.args.entry.now.number c.args.entry.now.attempt
    (option_copied c.args.scramble) c.args.entry.now.outcome)
    c.is_solution-solved.ensures c.make_room.ensures.same c.note.ensures (rw (
      c.in-Ok-correct.ensures.corrected,
      value_is c.args.entry.now (option_copied c.args.scramble) c.args.self.now found.0 found.1
          c.in-Ok.ensures.settled c.index_mut-kept.result.now c.index_mut-kept.ensures.value,
    )
    refl)

pub returns-in_err-make_room-clause-err : goal.returns-in_err-make_room-clause-err
returns-in_err-make_room-clause-err c =
    let found = c.in-Ok.found in
    on_err _
    (as_before_to c.args.entry.now (option_copied c.args.scramble) c.args.self.now found.0 found.1
    c.in-Ok.ensures.settled c.index_mut-kept.result.now c.index_mut-kept.ensures.value
    c.make_room.new.self c.make_room.ensures.same)

pub returns-in-Err-correct-clause-refused : goal.returns-in-Err-correct-clause-refused
returns-in-Err-correct-clause-refused c =
    let found = c.in-Ok.found in
    rw c.in-Err-correct.ensures.unchanged
    (as_before_to c.args.entry.now (option_copied c.args.scramble) c.args.self.now found.0 found.1
    c.in-Ok.ensures.settled c.index_mut-kept.result.now c.index_mut-kept.ensures.value
    c.make_room.new.self c.make_room.ensures.same)

pub returns-in-Err-clause-code : goal.returns-in-Err-clause-code
returns-in-Err-clause-code c =
    let entry = c.args.entry.now in
    sym (c.in-Err.ensures.refused
    (correct_refusal entry.number entry.attempt (option_copied c.args.scramble) entry.outcome))
