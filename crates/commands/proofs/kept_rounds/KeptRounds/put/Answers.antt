use Rattle.std.{proofs.Common.refl, specs.Option.option_copied}
use Rattle.commands.{specs.model.Kept.with_attempt, proofs.Lookups.on_err}
use Rattle.commands.proofs.SettledLemmas.{entered_to, as_before_to, value_is}
use Rattle.commands.proofs.kept_rounds.KeptRounds.put.Goals as goal

pub returns-in-Ok-put-clause-done : goal.returns-in-Ok-put-clause-done
returns-in-Ok-put-clause-done c =
    let found = c.in-Ok.found in
    entered_to c.args.entry.now (option_copied c.args.scramble) c.args.self.now found.0 found.1
    c.in-Ok.ensures.settled c.index_mut-kept.result.now c.index_mut-kept.ensures.value
    c.put.new.self c.make_room.new.self c.note.new.self c.is_solution-solved.result
    (with_attempt c.args.entry.now.number (option_copied c.args.scramble) c.args.entry.now.outcome)
    c.is_solution-solved.ensures c.make_room.ensures.same c.note.ensures (rw (
      c.in-Ok-put.ensures.put,
      value_is c.args.entry.now (option_copied c.args.scramble) c.args.self.now found.0 found.1
          c.in-Ok.ensures.settled c.index_mut-kept.result.now c.index_mut-kept.ensures.value,
    )
    refl)

pub returns-in_err-make_room-clause-err : goal.returns-in_err-make_room-clause-err
returns-in_err-make_room-clause-err c =
    let found = c.in-Ok.found in
    on_err _
    (as_before_to c.args.entry.now (option_copied c.args.scramble) c.args.self.now found.0 found.1
    c.in-Ok.ensures.settled c.index_mut-kept.result.now c.index_mut-kept.ensures.value
    c.make_room.new.self c.make_room.ensures.same)

pub returns-in-Err-put-clause-refused : goal.returns-in-Err-put-clause-refused
returns-in-Err-put-clause-refused c =
    let found = c.in-Ok.found in
    rw c.in-Err-put.ensures.unchanged
    (as_before_to c.args.entry.now (option_copied c.args.scramble) c.args.self.now found.0 found.1
    c.in-Ok.ensures.settled c.index_mut-kept.result.now c.index_mut-kept.ensures.value
    c.make_room.new.self c.make_room.ensures.same)
