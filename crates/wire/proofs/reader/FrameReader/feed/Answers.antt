use Rattle.std.proofs.Common.{◌≡◌, [], vec_len, sym, arith}
use Rattle.std.proofs.lemmas.{Bool.eqb-true, List.nil_from_length}
use Rattle.wire.proofs.Feeding.{answers_again}
use Rattle.wire.proofs.Keeping.{waits_after, kept_after, broken_after, refused_at_once}
use Rattle.wire.proofs.reader.FrameReader.feed.Goals as goal

pub returns-in-Some-clause-refused : goal.returns-in-Some-clause-refused
returns-in-Some-clause-refused c =
    rw (← c.self.view_is) (answers_again c.in-Some.fault c.args.piece.now _ c.self.invariant.2
    c.in-Some.is)

pub invariant_of-self-in-Some-fault : goal.invariant_of-self-in-Some-fault
invariant_of-self-in-Some-fault c =
    let fed = c.in-Ok.ensures.read in (
      omega (arith, c.self.invariant.0, c.in-Ok.ensures.room),
      waits_after _ _ _ fed,
      kept_after _ _
          _ fed,
      broken_after _ _ _ fed,
    )

pub returns-in-Some-fault-clause-refused : goal.returns-in-Some-fault-clause-refused
returns-in-Some-fault-clause-refused c =
    let fed = c.in-Ok.ensures.read in
    let zero : vec_len c.in-Ok.received.frames ≡ 0 =
    first_of (
      grind (arith, c.if-is_empty.ensures),
      omega (arith, eqb-true _ _ (sym c.if-is_empty.ensures)),
    ) in
    let empty : c.in-Ok.received.frames.items ≡ [] =
    nil_from_length c.in-Ok.received.frames.items (omega (arith, zero)) in
    rw (← c.self.view_is)
    (refused_at_once c.args.piece.now _ _ c.in-Ok.received.frames.items c.in-Some-fault.fault
    c.in_default.is fed empty c.in-Some-fault.is)

pub invariant_of-self-2 : goal.invariant_of-self-2
invariant_of-self-2 c =
    let fed = c.in-Ok.ensures.read in (
      omega (arith, c.self.invariant.0, c.in-Ok.ensures.room),
      waits_after _ _ _ fed,
      kept_after _ _
          _ fed,
      broken_after _ _ _ fed,
    )
