-- How the pages look, and what the script adds: the texts of the code (the project's own).
use Rattle.std.specs.Prelude.{ℕ, List}
use Rattle.table_views.specs.declared.looks.TheConstants.{STYLE, SCRIPT}

unfoldable pub style : List ℕ
style = STYLE.now

unfoldable pub script : List ℕ
script = SCRIPT.now
