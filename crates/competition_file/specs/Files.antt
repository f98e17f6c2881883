-- A competition's file in the WCA Competition Interchange Format (its Competition), and what
-- becomes of it when a newer one is read.
use Rattle.std.specs.Prelude.{◌≡◌, ℕ, ◌==◌, ◌&&◌, Bool, false, not, bytes_eq, codes, length, List}
use Rattle.std.specs.Prelude.{flat_map, unwrap_or}
use Rattle.serde_json.specs.Data.{Data, null}
use Rattle.wcif.specs.declared.options.CumulativeLimits.TheVariants.{AsSingle}
use Rattle.serde_json.specs.Read.{read}
use Rattle.wcif.specs.Files.{ReadFails, without_mark}
use Rattle.wcif.specs.Later.{later_lines, later_of}
use Rattle.wcif.specs.{Members.member_at, Persons.text_under}
use Rattle.competition_file.specs.declared.file.RenewFault.{RenewFault}
use Rattle.competition_file.specs.declared.file.RenewFault.TheVariants.{Unread, OtherCompetition}
use Rattle.competition_file.specs.Items.{items_of, items_under}

-- the JSON value of the bytes of a file
unfoldable pub data_of : List ℕ → Data
data_of bytes = unwrap_or (read (without_mark bytes)) null

-- all persons, in the order of the file
abbrev pub persons : Data → List Data
persons d = items_under (codes "persons") d

-- the venues of its schedule, whose rooms have activities
unfoldable pub venues : Data → List Data
venues d = items_of (codes "venues") (member_at (codes "schedule") d)

abbrev pub id_of : Data → List ℕ
id_of d = text_under (codes "id") d

-- two files are of one competition: both have an id, and it is the same
abbrev pub is_same : Data → Data → Bool
is_same d e = not (length (id_of d) == 0) && bytes_eq (id_of d) (id_of e)

-- how the file has later rounds, each a comment
abbrev pub proposals : Data → List ℕ
proposals d = later_lines (flat_map (later_of AsSingle) (items_under (codes "events") d))

-- why these bytes do not take the place of those of a file
abbrev pub RenewFails : List ℕ → List ℕ → RenewFault → Type 0
RenewFails bytes old (Unread fault) = ReadFails bytes fault
RenewFails bytes old OtherCompetition = is_same (data_of old) (data_of bytes) ≡ false
