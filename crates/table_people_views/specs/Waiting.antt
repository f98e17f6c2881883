-- The page of what was sent and is not decided yet (the project's own).
use Rattle.std.specs.Prelude.{ℕ, List, ◌++◌, codes}
use Rattle.round_words.specs.Words.{round_name}
use Rattle.table_views.specs.{declared.around.PageContext.PageContext, Recent.recent_section}
use Rattle.table_views.specs.Frame.{bottom, top}
use Rattle.texts.specs.declared.command.RoundId.{RoundId}
use Rattle.table_people_views.specs.declared.waiting.TheConstants.{START}

-- with a link to the next card of the round
unfoldable pub waiting_section : RoundId → List ℕ
waiting_section round =
    START.now ++ round_name round ++ codes "\">The next card</a></p></section>\n"

-- the page that waits in the place of a card of this round
abbrev pub waiting_page : PageContext → RoundId → List ℕ
waiting_page around round =
    top (codes "hall") (codes "Waiting") around
    ++ waiting_section round ++ recent_section around ++ bottom
