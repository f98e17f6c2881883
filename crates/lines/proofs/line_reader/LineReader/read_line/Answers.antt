use Rattle.std.proofs.Common.{rules, ◌≡◌, sym, true, false, length, ◌==◌, ◌++◌, ◌∷◌, [], Err, subst}
use Rattle.std.proofs.{Common.arith, lemmas.Bool.Decides.nat_tests}
use Rattle.lines.specs.Reading.{has_room, Gives, IsBroken}
use Rattle.lines.proofs.Given.{Midway, byte_is, is_above, ends_line, goes_on, starves, room_lines}
use Rattle.lines.proofs.{Given.is_broken, Given.ends_within, Runs.run_on, Runs.still_going}
use Rattle.lines.specs.declared.fault.RunFault.TheVariants as run_fault
use Rattle.lines.proofs.line_reader.LineReader.read_line.Goals as goal

pub returns-then-not-count_byte : goal.returns-then-not-count_byte
returns-then-not-count_byte g c = λ given start h.
    let m = run_on _ _ _ _ given start _ c.in_ok-take_run.ensures.ok
    (c.loop-self.invariant.midway given start h) in
    let t = byte_is c.take_run.new.self c.next_byte.new.self c.in_ok-byte.field-0 c.in-Some.byte _ _
    c.in-Some.is c.in_ok-byte.ensures.ok in
    let room : has_room c.next_byte.new.self.bytes c.next_byte.new.self.lines
    (length c.take_run.new.line.items) c.in-Some.byte ≡ false = search rules in (
      c.take_run.new.line.items ++ c.in-Some.byte ∷ c.next_byte.new.self.held,
      is_above c.take_run.new.self c.next_byte.new.self c.take_run.new.line.items given
          c.in-Some.byte start _ _ m t room,
    )

pub returns-then-byte-eq10 : goal.returns-then-byte-eq10
returns-then-byte-eq10 g c = λ given start h.
    let m = run_on _ _ _ _ given start _ c.in_ok-take_run.ensures.ok
    (c.loop-self.invariant.midway given start h) in
    let t = byte_is c.take_run.new.self c.next_byte.new.self c.in_ok-byte.field-0 c.in-Some.byte _ _
    c.in-Some.is c.in_ok-byte.ensures.ok in
    let room : has_room c.next_byte.new.self.bytes c.next_byte.new.self.lines
    (length c.take_run.new.line.items) c.in-Some.byte ≡ true = search rules in
    let feed : (c.in-Some.byte == 10) ≡ true = grind (arith, nat_tests) in
    rw (c.count_line.ensures, c.count_byte.ensures.counted c.if-not-count_byte.false)
    (ends_line c.take_run.new.self c.next_byte.new.self c.take_run.new.line.items given
    c.in-Some.byte start _ _ m t room feed)

pub loop-self-preserved : goal.loop-self-preserved
loop-self-preserved g c =
    let t = byte_is c.take_run.new.self c.next_byte.new.self c.in_ok-byte.field-0 c.in-Some.byte _ _
    c.in-Some.is c.in_ok-byte.ensures.ok in
    let room : has_room c.next_byte.new.self.bytes c.next_byte.new.self.lines
    (length c.take_run.new.line.items) c.in-Some.byte ≡ true = search rules in
    let feed : (c.in-Some.byte == 10) ≡ false = grind (arith, nat_tests) in
    let pushed : c.push.new.self.items ≡ c.take_run.new.line.items ++ c.in-Some.byte ∷ [] =
    search rules in
    let counted = c.count_byte.ensures.counted c.if-not-count_byte.false in
    record {
      midway =
          λ given start h.
          rw (counted, pushed)
          (goes_on c.take_run.new.self c.next_byte.new.self c.take_run.new.line.items given
          c.in-Some.byte start _ _ (run_on _ _ _ _ given start _ c.in_ok-take_run.ensures.ok
          (c.loop-self.invariant.midway given start h)) t room feed);
      going =
          rw counted (still_going c.loop-self.self c.take_run.new.self c.next_byte.new.self
          c.loop-self.line.items c.take_run.new.line.items c.in-Some.byte _ _
          c.in_ok-take_run.ensures.ok t c.loop-self.invariant.going);
      few =
          λ _.
          rw counted (room_lines c.next_byte.new.self.bytes c.next_byte.new.self.lines
          (length c.take_run.new.line.items) c.in-Some.byte room);
    }

pub returns-then-is_err : goal.returns-then-is_err
returns-then-is_err g c = λ given start h.
    let m = run_on _ _ _ _ given start _ c.in_ok-take_run.ensures.ok
    (c.loop-self.invariant.midway given start h) in
    let t = byte_is c.take_run.new.self c.next_byte.new.self c.in_ok-byte.field-0 c.in-Some.byte _ _
    c.in-Some.is c.in_ok-byte.ensures.ok in
    starves c.take_run.new.self c.next_byte.new.self c.take_run.new.line.items given c.in-Some.byte
    start _ _ m t

pub returns-in_err-byte : goal.returns-in_err-byte
returns-in_err-byte g c = λ given start h.
    let m : Midway c.take_run.new.self c.take_run.new.line.items given start
    (g.R.Read.remaining c.loop-self.reader) =
    run_on c.loop-self.self c.take_run.new.self c.loop-self.line.items c.take_run.new.line.items
    given start _ c.in_ok-take_run.ensures.ok (c.loop-self.invariant.midway given start h) in
    let broken : IsBroken given c.take_run.new.line.items start
    (g.R.Read.remaining c.next_byte.new.reader) =
    is_broken c.take_run.new.self c.take_run.new.line.items given start
    (g.R.Read.remaining c.loop-self.reader) (g.R.Read.remaining c.next_byte.new.reader) m
    c.in_err-byte.ensures.held c.in_err-byte.ensures.kept in
    let is : c.from_residual-in_err-byte.result ≡ Err run_fault.Read = search rules in
    subst (λ r. Gives r c.next_byte.new.self c.take_run.new.line.items given start
    (g.R.Read.remaining c.next_byte.new.reader)) (sym is) (c.take_run.new.line.items, broken)

pub returns : goal.returns
returns g c = λ given start h.
    let m : Midway c.take_run.new.self c.take_run.new.line.items given start
    (g.R.Read.remaining c.loop-self.reader) =
    run_on c.loop-self.self c.take_run.new.self c.loop-self.line.items c.take_run.new.line.items
    given start _ c.in_ok-take_run.ensures.ok (c.loop-self.invariant.midway given start h) in
    let some : (length c.take_run.new.line.items == 0) ≡ false = search rules in
    rw c.count_line-2.ensures
    (ends_within c.take_run.new.self c.next_byte.new.self c.take_run.new.line.items given start
    (g.R.Read.remaining c.loop-self.reader) (g.R.Read.remaining c.next_byte.new.reader) m
    (rw c.in_default.is at c.in_ok-byte.ensures.ok) some)
