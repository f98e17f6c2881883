use Rattle.std.proofs.Common.{◌≡◌, ◌++◌, drop, flat_map}
use Rattle.table_round_views.specs.Opening.{format_choice}
use Rattle.table_round_views.proofs.opening.push_formats.Given as goal

-- what was written, and what is written for those that are left, is the whole
abbrev pub invariant-loop-format : goal.invariant-loop-format
invariant-loop-format l =
    l.out.items ++ flat_map (format_choice l.event l.proposed) (drop l.format-index l.formats)
    ≡ l.initial.out.items ++ flat_map (format_choice l.event l.proposed) l.formats
