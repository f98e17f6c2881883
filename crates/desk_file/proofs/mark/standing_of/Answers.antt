use Rattle.std.proofs.Common.{inl, inr, sym, refl, ◌∙◌, subst, arith, rules}
use Rattle.std.proofs.lemmas.Bool.{false≢true}
use Rattle.sqlite_wal.specs.{Format.IsSigned, Recovery.header}
use Rattle.desk_file.specs.Marks.{IsOfUse, IsShut}
use Rattle.desk_file.proofs.Marking.{front_read, is_log, too_short, unframed, unnamed, unsigned}
use Rattle.desk_file.proofs.mark.standing_of.Goals as goal

pub returns-then-len-lt-FRONT_LEN : goal.returns-then-len-lt-FRONT_LEN
returns-then-len-lt-FRONT_LEN c log is given = too_short c.args.number log (omega arith)

pub returns-then-round-number : goal.returns-then-round-number
returns-then-round-number c log is given =
    let f = front_read log c.args.front.now (given (omega arith)) (search rules) in
    let rr = c.get_be32-round.ensures in
    let ss = c.get_be32.ensures in
    unnamed c.args.number log (λ same. c.if-round-number.true (omega arith))

pub returns-then-front-eq0 : goal.returns-then-front-eq0
returns-then-front-eq0 c log is given =
    let f = front_read log c.args.front.now (given (omega arith)) (search rules) in
    let rr = c.get_be32-round.ensures in
    let ss = c.get_be32.ensures in
    let of_use : IsOfUse c.args.number log = (omega arith, omega arith) in
    (of_use, inl (sym f.zero ∙ c.if-front-eq0.true))

pub returns-then-not-is_signed : goal.returns-then-not-is_signed
returns-then-not-is_signed c log is given =
    let f = front_read log c.args.front.now (given (omega arith)) (search rules) in
    unsigned c.args.number log (λ zero. c.if-front-eq0.false (f.zero ∙ zero))
    (λ signed. false≢true (c.if-not-is_signed.ensures.1
    (subst IsSigned (sym (c.header_of.ensures ∙ f.head)) signed)))

pub returns-then-has_frame : goal.returns-then-has_frame
returns-then-has_frame c log is given =
    let f = front_read log c.args.front.now (given (omega arith)) (search rules) in
    let rr = c.get_be32-round.ensures in
    let ss = c.get_be32.ensures in
    let has = (c.has_frame.ensures log is given).0 c.if-has_frame.true in
    ((omega arith, omega arith), has.0, inr has.2)

pub returns-else-has_frame : goal.returns-else-has_frame
returns-else-has_frame c log is given =
    let f = front_read log c.args.front.now (given (omega arith)) (search rules) in
    unframed c.args.number log (λ zero. c.if-front-eq0.false (f.zero ∙ zero))
    (sym f.gate ∙ c.if-gate-salt.true ∙ f.first)
    (λ has. false≢true (sym c.if-has_frame.false ∙ (c.has_frame.ensures log is given).1 has))

pub returns-then-len-lt-LOG_LEN : goal.returns-then-len-lt-LOG_LEN
returns-then-len-lt-LOG_LEN c log is given =
    let f = front_read log c.args.front.now (given (omega arith)) (search rules) in
    let rr = c.get_be32-round.ensures in
    let ss = c.get_be32.ensures in
    let signed : IsSigned (header log) =
    subst IsSigned (c.header_of.ensures ∙ f.head) (c.if-not-is_signed.ensures.0 refl) in
    let shut : IsShut log = λ same. c.if-gate-salt.false (f.gate ∙ same ∙ sym f.first) in
    let of_use : IsOfUse c.args.number log = (omega arith, omega arith) in
    (of_use, inr (omega arith, signed, shut))

pub returns-else-len-lt-LOG_LEN : goal.returns-else-len-lt-LOG_LEN
returns-else-len-lt-LOG_LEN c log is given =
    let f = front_read log c.args.front.now (given (omega arith)) (search rules) in
    let rr = c.get_be32-round.ensures in
    let ss = c.get_be32.ensures in
    let signed : IsSigned (header log) =
    subst IsSigned (c.header_of.ensures ∙ f.head) (c.if-not-is_signed.ensures.0 refl) in
    let shut : IsShut log = λ same. c.if-gate-salt.false (f.gate ∙ same ∙ sym f.first) in
    let of_use : IsOfUse c.args.number log = (omega arith, omega arith) in
    is_log c.args.number log of_use (omega arith) signed (inl shut)
