-- The page that accepts a competition's file, or lines of commands (the project's own).
use Rattle.std.specs.Prelude.{ℕ, List, ◌++◌, codes, get_or}
use Rattle.table_views.specs.{declared.around.PageContext.PageContext, Hidden.hidden}
use Rattle.table_views.specs.{Frame.top, Frame.bottom, Recent.recent_section}
use Rattle.table_people_views.specs.declared.importing.TheConstants.{FILE_END, FILE_START}
use Rattle.table_people_views.specs.declared.importing.TheConstants.{LINES_END}

-- two forms: one for a file, and one for lines
unfoldable pub import_section : PageContext → List ℕ
import_section around =
    FILE_START.now ++ hidden around.token.now (get_or around.ids.now 0 0) ++ FILE_END.now
    ++ hidden around.token.now (get_or around.ids.now 1 0) ++ LINES_END.now

unfoldable pub import_page : PageContext → List ℕ
import_page around =
    top (codes "hall") (codes "From a file or from lines") around
    ++ import_section around
    ++ recent_section around
    ++ bottom
