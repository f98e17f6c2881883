use Rattle.std.proofs.Common.{◌≤◌, ◌∙◌, codes, length, rules, sym}
use Rattle.std.proofs.lemmas.List.{length-map}
use Rattle.clap.{specs.Words.found_of, proofs.WalkLemmas.raw_values-rows}
use Rattle.arguments.proofs.places.desks_at.Goals as goal

pub returns : goal.returns
returns c =
    let f = found_of c.args.found.now in
    let texts = c.in_ok-addresses.addresses.now in
    let some : 1 ≤ length texts = search rules in
    let few : length texts ≤ 5 = search rules in (
      c.in_ok-hall.ensures,
      record {
        given = sym (raw_values-rows f (codes "to")) ∙ sym c.in_ok-addresses.ensures;
        some = rw (length-map texts (λ t. t.now)) some;
        few = rw (length-map texts (λ t. t.now)) few;
      },
      c.given_text-key.ensures,
    )
