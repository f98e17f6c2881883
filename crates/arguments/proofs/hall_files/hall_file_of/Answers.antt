use Rattle.std.proofs.Common.{◌∙◌, codes, refl, sym}
use Rattle.clap.{specs.Words.found_of, proofs.WalkLemmas.raw_values-rows}
use Rattle.arguments.proofs.hall_files.hall_file_of.Goals as goal

pub returns : goal.returns
returns c =
    let f = found_of c.args.found.now in (
      refl,
      c.in_ok-hall.ensures,
      sym (raw_values-rows f (codes "addr")) ∙ sym c.in_ok-addresses.ensures,
      c.flag_at-keys.ensures,
    )
