use Rattle.std.proofs.Common.{◌≡◌, ◌++◌, drop, flat_map}
use Rattle.table_views.specs.Recent.{recent_line}
use Rattle.table_views.proofs.recent.push_lines.Given as goal

-- what was written, and what is written for those that are left, is the whole
abbrev pub invariant-loop-recent : goal.invariant-loop-recent
invariant-loop-recent l =
    l.out.items ++ flat_map (recent_line l.around l.newest) (drop l.recent-index l.recents)
    ≡ l.initial.out.items ++ flat_map (recent_line l.around l.newest) l.recents
