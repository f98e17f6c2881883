use Rattle.std.proofs.Common.{refl, sym, subst, ◌≤◌, length, rules, ◌≡◌}
use Rattle.serving.specs.Answering.{entries_from}
use Rattle.serving.proofs.Prefixes.{few_entries, entries_within}
use Rattle.serving.proofs.copies.copied.Goals as goal

pub returns-in-Ok-clause-in_range : goal.returns-in-Ok-clause-in_range
returns-in-Ok-clause-in_range g c =
    let log = c.log-log.result.now.entries in
    let is : c.in-Ok.entries ≡ entries_from c.args.position log = c.in-Ok.ensures in
    λ version high. record {
      body = (
        high,
        record {
          from = c.requires;
          log = search rules;
          most = subst (λ es. length es ≤ 400) (sym is) (few_entries c.args.position log);
          within = entries_within c.args.position log _ _ is c.len-length.ensures.len;
          each = search rules;
        },
      );
      way = refl;
    }
