use Rattle.std.proofs.Common.{refl, sym, ◌∙◌}
use Rattle.rounds.specs.Tables.{without_last}
use Rattle.texts.specs.Fields.{round_id}
use Rattle.commands.specs.model.Kept.{with_advance, with_end, with_reopening, with_settings}
use Rattle.commands.specs.{model.Kept.with_strike, Accepted.withdraw_refusal}
use Rattle.commands.proofs.{Apart.changed_stays, CardIndex.known_of}
use Rattle.commands.proofs.Within.{attempt_within, correct_within, rescramble_within}
use Rattle.commands.specs.Accepted.{advance_refusal, correct_refusal, enter_refusal}
use Rattle.commands.specs.Accepted.{entered_refusal, is_registered, put_refusal, rules_refusal}
use Rattle.commands.specs.Accepted.{scramble_by, scramble_of, scramble_refusal, strike_refusal}
use Rattle.commands.proofs.ReadCards.{card_read, fix_read}
use Rattle.commands.proofs.Arms.{unknown, by_round, by_entrant, by_entrant_or, again_answered}
use Rattle.commands.proofs.Arms.{closes, reopens, known_number, cancels}
use Rattle.commands.proofs.EachCommand.{round_advance, round_close, round_reopen, round_settings}
use Rattle.commands.proofs.EachCommand.{round_strike, round_register, round_rename}
use Rattle.commands.proofs.Indexed.{named, entered, scrambled, attempted, corrected, round_noted}
use Rattle.commands.proofs.Indexed.{edition_noted, nothing_added, rescrambled, rescramble_alike}
use Rattle.commands.proofs.Indexed.{withdrew, cancelled_or, as_before_on_err}
use Rattle.texts.specs.declared.command.Command.TheVariants as command
use Rattle.commands.proofs.index.Index.apply.Goals as goal

pub returns-then-is_of_nobody-clause-code : goal.returns-then-is_of_nobody-clause-code
returns-then-is_of_nobody-clause-code c =
    unknown c.args.accepted.now c.args.command.now
    (sym c.is_of_nobody.ensures ∙ c.if-is_of_nobody.true)

pub returns-then-is_of_nobody-clause-index : goal.returns-then-is_of_nobody-clause-index
returns-then-is_of_nobody-clause-index c =
    nothing_added c.args.accepted.now c.args.self.now c.requires.index

pub returns-in-Register-clause-index : goal.returns-in-Register-clause-index
returns-in-Register-clause-index c =
    rw c.in-Register.is
    (named c.args.accepted.now (command.Register c.in-Register.number c.in-Register.name)
    c.register.result c.args.self.now _ c.requires.index (λ e r k n. refl)
    (λ e r. round_register e r c.in-Register.number c.in-Register.name c.args.accepted.now)
    c.register.ensures.kept refl)

pub returns-in-Enter-clause-code : goal.returns-in-Enter-clause-code
returns-in-Enter-clause-code c =
    rw c.in-Enter.is (by_entrant_or c.args.accepted.now c.args.self.now c.requires.index
    (round_id c.in-Enter.event 1) c.in-Enter.number (enter_refusal c.in-Enter.number) c.enter.result
    (rw c.in-Enter.is at (sym c.is_of_nobody.ensures ∙ c.if-is_of_nobody.false))
    c.enter.ensures.code)

pub returns-in-Enter-clause-index : goal.returns-in-Enter-clause-index
returns-in-Enter-clause-index c =
    rw c.in-Enter.is
    (entered c.args.accepted.now c.in-Enter.event c.in-Enter.number c.enter.result c.args.self.now _
    c.requires.index refl c.enter.ensures.done c.enter.ensures.refused)

pub returns-in-Scramble-clause-code : goal.returns-in-Scramble-clause-code
returns-in-Scramble-clause-code c =
    rw c.in-Scramble.is
    (by_round c.args.accepted.now c.args.self.now c.requires.index c.in-Scramble.id
    (scramble_refusal c.in-Scramble.id.event c.in-Scramble.attempt
    (scramble_of c.args.accepted.now c.in-Scramble.id.event c.in-Scramble.id.round
    c.in-Scramble.attempt)) c.add_scramble.result
    (rw c.scramble_of-there.ensures at c.add_scramble.ensures.code))

pub returns-in-Scramble-clause-index : goal.returns-in-Scramble-clause-index
returns-in-Scramble-clause-index c =
    let id = c.in-Scramble.id in
    rw c.in-Scramble.is
    (scrambled c.args.accepted.now id.event id.round c.in-Scramble.attempt c.in-Scramble.moves
    c.add_scramble.result c.args.self.now _ c.requires.index (rw
    (c.scramble_of-there.ensures, c.requires.index.rounds.rounds id.event id.round) at
    c.add_scramble.ensures.code) refl c.add_scramble.ensures.done c.add_scramble.ensures.refused)

pub put-requires-clause-attempt : goal.put-requires-clause-attempt
put-requires-clause-attempt c =
    attempt_within c.in-Attempt.entry (rw c.in-Attempt.is at c.requires.command)

pub returns-in-Attempt-clause-code : goal.returns-in-Attempt-clause-code
returns-in-Attempt-clause-code c =
    let entry = c.in-Attempt.entry in
    rw c.in-Attempt.is
    (by_entrant_or c.args.accepted.now c.args.self.now c.requires.index entry.id entry.number
    (entered_refusal entry.id.event entry.outcome (scramble_by c.args.accepted.now entry)
    (put_refusal entry.number entry.attempt)) c.put.result
    (rw c.in-Attempt.is at (sym c.is_of_nobody.ensures ∙ c.if-is_of_nobody.false))
    (rw c.scramble_of-scramble.ensures at c.put.ensures.code))

pub returns-in-Attempt-clause-index : goal.returns-in-Attempt-clause-index
returns-in-Attempt-clause-index c =
    rw c.in-Attempt.is
    (attempted c.args.accepted.now c.in-Attempt.entry c.put.result c.args.self.now _
    c.requires.index refl
    (rw c.scramble_of-scramble.ensures at c.put.ensures.done) c.put.ensures.refused)

pub returns-in-Attempt-clause-err : goal.returns-in-Attempt-clause-err
returns-in-Attempt-clause-err c =
    as_before_on_err c.args.accepted.now c.args.self.now c.put.new.self c.put.result
    c.requires.index c.put.ensures.err

pub correct-requires-clause-attempt : goal.correct-requires-clause-attempt
correct-requires-clause-attempt c =
    correct_within c.in-Correct.entry (rw c.in-Correct.is at c.requires.command)

pub returns-in-Correct-clause-code : goal.returns-in-Correct-clause-code
returns-in-Correct-clause-code c =
    let entry = c.in-Correct.entry in
    rw c.in-Correct.is
    (by_entrant_or c.args.accepted.now c.args.self.now c.requires.index entry.id entry.number
    (entered_refusal entry.id.event entry.outcome (scramble_by c.args.accepted.now entry)
    (correct_refusal entry.number entry.attempt (scramble_by c.args.accepted.now entry)
    entry.outcome)) c.correct.result
    (rw c.in-Correct.is at (sym c.is_of_nobody.ensures ∙ c.if-is_of_nobody.false))
    (rw c.scramble_of-scramble-in-Correct.ensures at c.correct.ensures.code))

pub returns-in-Correct-clause-index : goal.returns-in-Correct-clause-index
returns-in-Correct-clause-index c =
    rw c.in-Correct.is
    (corrected c.args.accepted.now c.in-Correct.entry c.correct.result c.args.self.now _
    c.requires.index refl (rw c.scramble_of-scramble-in-Correct.ensures at c.correct.ensures.done)
    c.correct.ensures.refused)

pub returns-in-Correct-clause-err : goal.returns-in-Correct-clause-err
returns-in-Correct-clause-err c =
    as_before_on_err c.args.accepted.now c.args.self.now c.correct.new.self c.correct.result
    c.requires.index c.correct.ensures.err

pub returns-in-Strike-clause-code : goal.returns-in-Strike-clause-code
returns-in-Strike-clause-code c =
    rw c.in-Strike.is
    (by_entrant c.args.accepted.now c.args.self.now c.requires.index c.in-Strike.id
    c.in-Strike.number (strike_refusal c.in-Strike.number) c.strike.result
    (rw c.in-Strike.is at (sym c.is_of_nobody.ensures ∙ c.if-is_of_nobody.false))
    c.strike.ensures.code)

pub returns-in-Strike-clause-index : goal.returns-in-Strike-clause-index
returns-in-Strike-clause-index c =
    rw c.in-Strike.is
    (round_noted c.args.accepted.now (command.Strike c.in-Strike.id c.in-Strike.number)
    c.in-Strike.id (with_strike c.in-Strike.number) c.strike.result c.args.self.now _
    c.requires.index (λ f s k n. refl) (λ f s.
    round_strike f c.in-Strike.id.event s c.in-Strike.id.round c.in-Strike.number
    c.args.accepted.now) (λ x n. changed_stays n c.in-Strike.number without_last x.1.entrants)
    refl c.strike.ensures.done c.strike.ensures.refused)

pub returns-in-SetAdvance-clause-code : goal.returns-in-SetAdvance-clause-code
returns-in-SetAdvance-clause-code c =
    rw c.in-SetAdvance.is
    (by_round c.args.accepted.now c.args.self.now c.requires.index c.in-SetAdvance.id
    advance_refusal c.set_advance.result c.set_advance.ensures.code)

pub returns-in-SetAdvance-clause-index : goal.returns-in-SetAdvance-clause-index
returns-in-SetAdvance-clause-index c =
    rw c.in-SetAdvance.is
    (round_noted c.args.accepted.now (command.SetAdvance c.in-SetAdvance.id c.in-SetAdvance.advance)
    c.in-SetAdvance.id (with_advance c.in-SetAdvance.advance) c.set_advance.result c.args.self.now _
    c.requires.index (λ f s k n. refl) (λ f s.
    round_advance f c.in-SetAdvance.id.event s c.in-SetAdvance.id.round c.in-SetAdvance.advance
    c.args.accepted.now)
    (λ x n. refl) refl c.set_advance.ensures.done c.set_advance.ensures.refused)

pub returns-in-Close-clause-code : goal.returns-in-Close-clause-code
returns-in-Close-clause-code c =
    rw c.in-Close.is
    (closes c.args.accepted.now c.args.self.now c.requires.index c.close.result c.in-Close.id
    c.close.ensures.code)

pub returns-in-Close-clause-index : goal.returns-in-Close-clause-index
returns-in-Close-clause-index c =
    rw c.in-Close.is
    (round_noted c.args.accepted.now (command.Close c.in-Close.id) c.in-Close.id with_end
    c.close.result c.args.self.now _ c.requires.index (λ f s k n. refl)
    (λ f s. round_close f c.in-Close.id.event s c.in-Close.id.round c.args.accepted.now)
    (λ x n. refl) refl c.close.ensures.done c.close.ensures.refused)

pub rename-requires-clause-known : goal.rename-requires-clause-known
rename-requires-clause-known c =
    known_number c.args.accepted.now c.in-Rename.number c.in-Rename.name
    (rw c.in-Rename.is at (sym c.is_of_nobody.ensures ∙ c.if-is_of_nobody.false))

pub returns-in-Rename-clause-index : goal.returns-in-Rename-clause-index
returns-in-Rename-clause-index c =
    rw c.in-Rename.is
    (named c.args.accepted.now (command.Rename c.in-Rename.number c.in-Rename.name)
    c.rename.result c.args.self.now _ c.requires.index (λ e r k n. refl)
    (λ e r. round_rename e r c.in-Rename.number c.in-Rename.name c.args.accepted.now)
    c.rename.ensures.kept refl)

pub returns-in-SetRound-clause-code : goal.returns-in-SetRound-clause-code
returns-in-SetRound-clause-code c =
    rw c.in-SetRound.is
    (by_round c.args.accepted.now c.args.self.now c.requires.index c.in-SetRound.id
    (rules_refusal c.in-SetRound.id.event c.in-SetRound.format c.in-SetRound.cutoff
    c.in-SetRound.limit) c.set_round.result c.set_round.ensures.code)

pub returns-in-SetRound-clause-index : goal.returns-in-SetRound-clause-index
returns-in-SetRound-clause-index c =
    rw c.in-SetRound.is (round_noted c.args.accepted.now
    (command.SetRound c.in-SetRound.id c.in-SetRound.format c.in-SetRound.cutoff
    c.in-SetRound.limit) c.in-SetRound.id
    (with_settings c.in-SetRound.format c.in-SetRound.cutoff c.in-SetRound.limit)
    c.set_round.result c.args.self.now _ c.requires.index (λ f s k n. refl) (λ f s.
    round_settings f c.in-SetRound.id.event s c.in-SetRound.id.round c.in-SetRound.format
    c.in-SetRound.cutoff c.in-SetRound.limit c.args.accepted.now)
    (λ x n. refl) refl c.set_round.ensures.done c.set_round.ensures.refused)

pub returns-in-Rescramble-clause-code : goal.returns-in-Rescramble-clause-code
returns-in-Rescramble-clause-code c =
    rw c.in-Rescramble.is
    (again_answered c.args.accepted.now c.args.self.now c.requires.index c.in-Rescramble.id
    c.in-Rescramble.attempt c.in-Rescramble.moves c.rescramble.result
    (rescramble_within c.in-Rescramble.id c.in-Rescramble.attempt c.in-Rescramble.moves
    (rw c.in-Rescramble.is at c.requires.command)).0
    (rw c.scramble_of-there-in-Rescramble.ensures at c.rescramble.ensures.code))

pub returns-in-Rescramble-clause-index : goal.returns-in-Rescramble-clause-index
returns-in-Rescramble-clause-index c =
    let id = c.in-Rescramble.id in
    rw c.in-Rescramble.is (rescrambled c.args.accepted.now id.event id.round c.in-Rescramble.attempt
    c.in-Rescramble.moves c.rescramble.result c.args.self.now _ c.requires.index (rw
    (rescramble_alike c.args.accepted.now c.args.self.now.rounds.opened.items id.event id.round
    c.in-Rescramble.attempt (rescramble_within id c.in-Rescramble.attempt c.in-Rescramble.moves
    (rw c.in-Rescramble.is at c.requires.command)).0 c.requires.index.rounds) at
    (rw c.scramble_of-there-in-Rescramble.ensures at c.rescramble.ensures.code))
    refl c.rescramble.ensures.done c.rescramble.ensures.refused)

pub withdraw-requires : goal.withdraw-requires
withdraw-requires c =
    c.requires.index.rounds.apart c.in-Withdraw.id.event c.in-Withdraw.id.round

pub returns-in-Withdraw-clause-code : goal.returns-in-Withdraw-clause-code
returns-in-Withdraw-clause-code c =
    rw c.in-Withdraw.is
    (by_entrant_or c.args.accepted.now c.args.self.now c.requires.index c.in-Withdraw.id
    c.in-Withdraw.number (withdraw_refusal c.in-Withdraw.number) c.withdraw.result
    (rw c.in-Withdraw.is at (sym c.is_of_nobody.ensures ∙ c.if-is_of_nobody.false))
    c.withdraw.ensures.code)

pub returns-in-Withdraw-clause-index : goal.returns-in-Withdraw-clause-index
returns-in-Withdraw-clause-index c =
    rw c.in-Withdraw.is (withdrew c.args.accepted.now c.in-Withdraw.id.event c.in-Withdraw.id.round
    c.in-Withdraw.number c.withdraw.result c.args.self.now _ c.requires.index refl
    c.withdraw.ensures.done c.withdraw.ensures.refused)

pub returns-in-Reopen-clause-code : goal.returns-in-Reopen-clause-code
returns-in-Reopen-clause-code c =
    rw c.in-Reopen.is
    (reopens c.args.accepted.now c.args.self.now c.requires.index c.reopen.result c.in-Reopen.id
    c.reopen.ensures.code)

pub returns-in-Reopen-clause-index : goal.returns-in-Reopen-clause-index
returns-in-Reopen-clause-index c =
    rw c.in-Reopen.is
    (round_noted c.args.accepted.now (command.Reopen c.in-Reopen.id) c.in-Reopen.id with_reopening
    c.reopen.result c.args.self.now _ c.requires.index (λ f s k n. refl)
    (λ f s. round_reopen f c.in-Reopen.id.event s c.in-Reopen.id.round c.args.accepted.now)
    (λ x n. refl) refl c.reopen.ensures.done c.reopen.ensures.refused)

pub returns-in-Cancel-clause-code : goal.returns-in-Cancel-clause-code
returns-in-Cancel-clause-code c =
    rw c.in-Cancel.is
    (cancels c.args.accepted.now c.args.self.now c.requires.index c.cancel.result c.in-Cancel.id
    c.cancel.ensures.code)

pub returns-in-Cancel-clause-index : goal.returns-in-Cancel-clause-index
returns-in-Cancel-clause-index c =
    rw c.in-Cancel.is
    (cancelled_or c.args.accepted.now c.in-Cancel.id.event c.in-Cancel.id.round c.cancel.result
    c.args.self.now _ c.requires.index refl c.cancel.ensures.done c.cancel.ensures.refused)

pub returns-in-SetEdition-clause-index : goal.returns-in-SetEdition-clause-index
returns-in-SetEdition-clause-index c =
    rw c.in-SetEdition.is
    (edition_noted c.args.accepted.now c.in-SetEdition.edition c.edition_refusal.result
    c.args.self.now c.requires.index)

pub card-requires-clause-card : goal.card-requires-clause-card
card-requires-clause-card c = card_read c.in-Card.card (rw c.in-Card.is at c.requires.command)

pub card-requires-clause-known : goal.card-requires-clause-known
card-requires-clause-known c =
    known_of (is_registered c.args.accepted.now c.in-Card.card.number)
    (rw c.in-Card.is at (sym c.is_of_nobody.ensures ∙ c.if-is_of_nobody.false))

pub returns-in-Card-clause-code : goal.returns-in-Card-clause-code
returns-in-Card-clause-code c = rw c.in-Card.is c.card.ensures.code

pub returns-in-Card-clause-index : goal.returns-in-Card-clause-index
returns-in-Card-clause-index c = rw c.in-Card.is c.card.ensures.index

pub fix-requires-clause-card : goal.fix-requires-clause-card
fix-requires-clause-card c = fix_read c.in-Fix.card (rw c.in-Fix.is at c.requires.command)

pub fix-requires-clause-known : goal.fix-requires-clause-known
fix-requires-clause-known c =
    known_of (is_registered c.args.accepted.now c.in-Fix.card.number)
    (rw c.in-Fix.is at (sym c.is_of_nobody.ensures ∙ c.if-is_of_nobody.false))

pub returns-in-Fix-clause-code : goal.returns-in-Fix-clause-code
returns-in-Fix-clause-code c = rw c.in-Fix.is c.fix.ensures.code

pub returns-in-Fix-clause-index : goal.returns-in-Fix-clause-index
returns-in-Fix-clause-index c = rw c.in-Fix.is c.fix.ensures.index
