use Rattle.std.proofs.Common.{◌∙◌, codes, refl, sym}
use Rattle.clap.{specs.Words.found_of, proofs.WalkLemmas.raw_values-rows}
use Rattle.arguments.proofs.serve.serve_of.Goals as goal

pub returns : goal.returns
returns c = (
  refl,
  record {
    hall = c.in_ok-hall.ensures;
    addresses =
        sym (raw_values-rows (found_of c.args.found.now) (codes "addr"))
        ∙ sym c.in_ok-addresses.ensures;
    options = c.in_ok-options-2.ensures.asked;
    making = c.in_ok-options-2.ensures.making;
    tick = rw c.in_ok-options-2.ensures.tick c.in_ok-tick-2.ensures;
  },
  rw c.if-new.false at c.flag_at-new.ensures,
  rw c.if-new_hall.false at c.flag_at-new_hall.ensures,
)
