-- The form that opens a closed round again (the project's own).
use Rattle.std.specs.Prelude.{ℕ, ◌+◌, Bool, false, if◌then◌else◌, is_some, nat_le, List, [], ◌++◌}
use Rattle.std.specs.Prelude.{codes, get_or}
use Rattle.commands.specs.Accepted.{round_by}
use Rattle.formats.specs.Events.{last_round}
use Rattle.texts.specs.declared.command.{Command.Command, RoundId.RoundId}
use Rattle.table_views.specs.{declared.around.PageContext.PageContext, Logs.accepted_in}
use Rattle.table_views.specs.Editions.{is_latest}
use Rattle.table_views.specs.Forms.{button, round_form, round_numbered}

-- the next round is opened; an event has at most four (WCA Regulations, article 9m)
abbrev pub is_followed : List Command → RoundId → Bool
is_followed accepted id =
    if nat_le last_round id.round then false
    else is_some (round_by accepted (round_numbered id.event (id.round + 1)))

unfoldable pub again_form : List ℕ → ℕ → RoundId → List ℕ
again_form token form id =
    codes "<p>It can be opened again until the next round is opened.</p>\n"
    ++ round_form token form (codes "REOPEN") id ++ button (codes "Open it again")

-- the form, in edition 4; before it, what edition 4 would allow
abbrev pub again_or_told : PageContext → RoundId → List ℕ
again_or_told around id =
    if is_latest (accepted_in around.mirror.now)
    then again_form around.token.now (get_or around.ids.now 0 0) id
    else codes "<p>With <a href=\"/rounds\">edition 4</a> it could be opened again.</p>\n"

-- nothing where the next round is opened
abbrev pub again : PageContext → RoundId → List ℕ
again around id =
    if is_followed (accepted_in around.mirror.now) id then [] else again_or_told around id
