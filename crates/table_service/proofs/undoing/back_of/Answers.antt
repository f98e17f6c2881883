use Rattle.std.proofs.Common.{◌∙◌, arith, length, sym}
use Rattle.table_service.{specs.Undoing.back_at, proofs.Undone.back_more, proofs.Undone.back_none}
use Rattle.table_service.proofs.undoing.back_of.Goals as goal

pub returns-in_default : goal.returns-in_default
returns-in_default c =
    sym (back_none (back_at c.args.unit c.args.limit c.args.left.now c.args.was.now)
    c.loop-place.place (length c.args.was.now) c.loop-place.now.items _
    c.loop-place.invariant.back (omega arith) (sym c.back_at.ensures ∙ c.in_default.is))

pub loop-place-preserved : goal.loop-place-preserved
loop-place-preserved c = record {
  end = c.loop-place.invariant.end;
  back = back_more (back_at c.args.unit c.args.limit c.args.left.now c.args.was.now)
      c.loop-place.place (length c.args.was.now) c.loop-place.now.items _
      c.loop-place.invariant.back c.in-Some.outcome c.put.new.now.items (omega arith)
      (sym c.back_at.ensures ∙ c.in-Some.is) c.in_ok-put.ensures;
}
