use Rattle.std.proofs.Common.{◌≡◌, true, false, ◌++◌, ◌∷◌, [], sym, ◌∙◌}
use Rattle.commands.specs.History.{History, is_seen, added_read, read_refusal}
use Rattle.texts.specs.Reading.{command_of}
use Rattle.commands.proofs.Entries.{stands_more, answer_new, after_new, after_seen}
use Rattle.commands.proofs.meet.Meet.apply.Goals as goal

pub returns-then-contains-clause-stands : goal.returns-then-contains-clause-stands
returns-then-contains-clause-stands c =
    let seen : is_seen c.args.self.now c.args.id ≡ true =
    rw (← c.self.view_is) (sym c.if-contains.ensures) in
    stands_more c.args.self.now c.args.self.now c.args.id c.args.text.now
    (after_seen c.args.self.now c.args.id c.args.text.now seen)

pub returns-clause-answer : goal.returns-clause-answer
returns-clause-answer c =
    let unseen : is_seen c.args.self.now c.args.id ≡ false =
    rw (← c.self.view_is) (sym c.if-contains.ensures) in
    rw (answer_new c.args.self.now c.args.id c.args.text.now unseen, ← c.self.view_is)
    c.in_ok-answer.ensures.answer

pub returns-clause-stands : goal.returns-clause-stands
returns-clause-stands c =
    let unseen : is_seen c.args.self.now c.args.id ≡ false =
    rw (← c.self.view_is) (sym c.if-contains.ensures) in
    let kept =
    rw (c.unwrap.ensures, c.in_ok-reserve.ensures.keys, ← c.if-contains.ensures) at
    c.insert.ensures.keys in
    let ids : c.insert.new.self.keys ≡ c.args.self.now.ids ++ c.args.id ∷ [] =
    rw (← c.self.view_is) kept in
    let accepted : c.do_text.new.accepted ≡ c.args.self.now.accepted ++ added_read
    (read_refusal c.args.self.now.accepted (command_of c.args.text.now))
    (command_of c.args.text.now) =
    rw (← c.self.view_is) c.in_ok-answer.ensures.added in
    let new : History =
    record { ids = c.insert.new.self.keys; accepted = c.do_text.new.accepted } in
    stands_more c.args.self.now new c.args.id c.args.text.now
    (after_new c.args.self.now new c.args.id c.args.text.now unseen ids accepted)

pub returns-in_err-reserve-clause-repeat : goal.returns-in_err-reserve-clause-repeat
returns-in_err-reserve-clause-repeat c = λ seen.
    let unseen : is_seen c.args.self.now c.args.id ≡ false =
    rw (← c.self.view_is) (sym c.if-contains.ensures) in
    absurd (let bad : true ≡ false = sym seen ∙ unseen in cc)

pub returns-in_err-answer-clause-repeat : goal.returns-in_err-answer-clause-repeat
returns-in_err-answer-clause-repeat c = λ seen.
    let unseen : is_seen c.args.self.now c.args.id ≡ false =
    rw (← c.self.view_is) (sym c.if-contains.ensures) in
    absurd (let bad : true ≡ false = sym seen ∙ unseen in cc)

pub returns-clause-repeat : goal.returns-clause-repeat
returns-clause-repeat c = λ seen.
    let unseen : is_seen c.args.self.now c.args.id ≡ false =
    rw (← c.self.view_is) (sym c.if-contains.ensures) in
    absurd (let bad : true ≡ false = sym seen ∙ unseen in cc)
