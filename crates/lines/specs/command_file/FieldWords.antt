-- How a message names the fields of a command (the project's own).
use Rattle.std.specs.Prelude.{ℕ, Bool, true, false, List, codes}
use Rattle.texts.specs.declared.table.FieldKind.{FieldKind}
use Rattle.texts.specs.declared.table.FieldKind.TheVariants as kind

-- what a field is called
abbrev pub field_name : FieldKind → List ℕ
field_name kind.Number = codes "number"
field_name kind.Name = codes "name"
field_name kind.NewName = codes "name"
field_name kind.Event = codes "event"
field_name kind.Round = codes "round"
field_name kind.Format = codes "format"
field_name kind.Cutoff = codes "cutoff"
field_name kind.Limit = codes "time limit"
field_name kind.Advance = codes "advance"
field_name kind.Attempt = codes "attempt"
field_name kind.Moves = codes "scramble"
field_name kind.Outcome = codes "outcome"
field_name kind.Edition = codes "edition"
field_name kind.Was = codes "values before"
field_name kind.Now = codes "attempts"

-- the verb after it, between spaces: what is listed has several items
abbrev pub verb : FieldKind → List ℕ
verb kind.Was = codes " are "
verb kind.Now = codes " are "
verb _ = codes " is "

-- what it has to be, and an example
abbrev pub field_form : FieldKind → List ℕ
field_form kind.Number = codes "competitor's number from 1 to 9999, as 17"
field_form kind.Name =
    codes "name of at most 160 bytes with single spaces and no double quote, as Ann Example"
field_form kind.NewName =
    codes "name of at most 160 bytes with single spaces and no double quote, as Ann Example"
field_form kind.Event = codes "event, as 333"
field_form kind.Round = codes "round from 1 to 4, as 1"
field_form kind.Format = codes "format, as ao5"
field_form kind.Cutoff = codes "cutoff, as - or 2:3000"
field_form kind.Limit = codes "time limit in hundredths of a second, as - or 60000"
field_form kind.Advance = codes "way to advance, as final or top:8 or pct:75"
field_form kind.Attempt = codes "attempt from 1 to 5, as 2"
field_form kind.Moves = codes "sequence of moves with single spaces, as R U' F2"
field_form kind.Outcome = codes "T:h:p, as T:1626:0"
field_form kind.Edition = codes "edition, as 4"
field_form kind.Was = codes "list of what stands, as - or 1043,1198,DNF"
field_form kind.Now = codes "list of attempts of which = stays, as T:1043:0/=/DNF"

-- it is the attempts that are to count
abbrev pub is_now : FieldKind → Bool
is_now kind.Now = true
is_now _ = false
