use Rattle.std.proofs.Common.{◌≡◌, IsTrue, inl, inr, sym, ◌∙◌, subst, arith, rules}
use Rattle.std.proofs.lemmas.Bool.{false≢true}
use Rattle.sqlite_wal.specs.{Format.IsSigned, Recovery.header}
use Rattle.desk_file.proofs.Marking.{front_read, told_twice}
use Rattle.desk_file.proofs.mark.has_frame.Goals as goal

pub returns-then-len-lt-LOG_LEN : goal.returns-then-len-lt-LOG_LEN
returns-then-len-lt-LOG_LEN c log is given =
    (λ yes. absurd (false≢true yes), λ has. absurd (has.0 (inl (omega arith))))

pub returns-then-room-size : goal.returns-then-room-size
returns-then-room-size c log is given =
    let f = front_read log c.args.front.now (given (omega arith)) (search rules) in
    let pp = c.get_be32-size.ensures in
    (λ yes. absurd (false≢true yes), λ has. let whole = has.2 in absurd (omega arith))

pub returns-then-gate-salt : goal.returns-then-gate-salt
returns-then-gate-salt c log is given =
    let f = front_read log c.args.front.now (given (omega arith)) (search rules) in (
      λ yes. absurd (false≢true yes),
      λ has. absurd (c.if-gate-salt.true (f.gate ∙ has.1 ∙ sym f.first)),
    )

pub returns : goal.returns
returns c log is given =
    let f = front_read log c.args.front.now (given (omega arith)) (search rules) in
    let pp = c.get_be32-size.ensures in
    let h : c.header_of.result ≡ header log = c.header_of.ensures ∙ f.head in
    let signs = λ (yes : IsTrue c.is_signed.result).
    subst IsSigned h (c.is_signed.ensures.0 yes) in (
      λ yes. (
        λ ignored. elim ignored [ inl short ↦ absurd (omega arith) | inr isnt ↦ isnt (signs yes) ],
        sym f.gate ∙ c.if-gate-salt.false ∙ f.first,
        omega arith,
      ),
      λ has. told_twice c.is_signed.result (IsSigned (header log))
          (signs, λ signed. c.is_signed.ensures.1 (subst IsSigned (sym h) signed))
          (λ isnt. has.0 (inr isnt)),
    )
