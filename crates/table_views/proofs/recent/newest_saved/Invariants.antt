use Rattle.std.proofs.Common.{◌≡◌, drop}
use Rattle.table_views.specs.Recent.{newest_saved}
use Rattle.table_views.proofs.recent.newest_saved.Given as goal

-- none of those so far is a card that is saved
abbrev pub invariant-loop-recent : goal.invariant-loop-recent
invariant-loop-recent l =
    newest_saved (drop l.recent-index l.recents) ≡ newest_saved l.recents
