-- What the arguments of the program ask for, as its parser reads them: `clap` says which argument
-- is the value of which name.
use Rattle.std.specs.Prelude.{◌≡◌, ◌≤◌, ◌&&◌, ◌||◌, true, false, Bool, ℕ, List, [], ◌∷◌, codes}
use Rattle.std.specs.Prelude.{decimal, length, map, nat_le, Option, None, Some, IfSome, is_some}
use Rattle.std.specs.Prelude.{if◌then◌else◌}
use Rattle.clap.specs.Words.{App, Row, Text, all_of, first_of, new_app, subcommand_of, with_rule}
use Rattle.clap.specs.{Words.with_subcommand, declared.builder.value_parser.ValueParser.ValueParser}
use Rattle.formats.specs.Events.{event_of_name}
use Rattle.wire.specs.{declared.values.Version.Version, Ranges.IsId}
use Rattle.wcif.specs.declared.options.Options.{Options}
use Rattle.arguments.specs.Arguments.{IsFlag, IsGiven, IsNumberAt, IsNumberOr, IsOneOf, IsText}
use Rattle.arguments.specs.Arguments.{IsTextOr, any_text, bound, values_rule, wait_seconds_rule}
use Rattle.arguments.specs.{Arguments.csv_rule, Arguments.errand_arguments, declared.task.Task.Task}
use Rattle.arguments.specs.Arguments.{explain_rule, flag_rule, last_value_rule, located_arguments}
use Rattle.arguments.specs.Arguments.{numbers, option_rule, optional_rule, optional_value_rule}
use Rattle.arguments.specs.Arguments.{optional_values_rule, required_flag_rule, several, value_rule}
use Rattle.hall_file.specs.declared.service.{ServeOptions.ServeOptions, Service.Service}
use Rattle.hall_file.specs.declared.service.StoreOrigin.{StoreOrigin}
use Rattle.arguments.specs.declared.places.{DeskPlaces.DeskPlaces, Place.Place}
use Rattle.arguments.specs.declared.task.{HallService.HallService, EnterOptions.EnterOptions}
use Rattle.arguments.specs.declared.task.{LogFormOption.LogFormOption, ClientRequest.ClientRequest}
use Rattle.hall_file.specs.declared.service.StoreOrigin.TheVariants as origin
use Rattle.wire.specs.declared.values.Version.TheVariants as version
use Rattle.wcif.specs.declared.options.CumulativeLimits.TheVariants as limits
use Rattle.wcif.specs.declared.options.Edition.TheVariants as edition
use Rattle.wcif.specs.declared.options.SameNames.TheVariants as names
use Rattle.arguments.specs.declared.places.DeskPlaces.TheVariants as desks
use Rattle.arguments.specs.declared.places.Place.TheVariants as place
use Rattle.arguments.specs.declared.task.LogFormOption.TheVariants as log_form
use Rattle.arguments.specs.declared.task.ClientRequest.TheVariants as request
use Rattle.arguments.specs.declared.task.Task.TheVariants as task
pub use Rattle.replay_arguments.specs.Asking.{RoundParsers, replay_arguments, named_app}
pub use Rattle.replay_arguments.specs.Asking.{IsRound, IsReplay, IsPrinted}

-- ---- the arguments of each subcommand

abbrev pub hall_arguments : App
hall_arguments = with_rule (new_app (codes "hall")) (value_rule (codes "desks") (numbers 0 255))

abbrev pub hall_file_arguments : App
hall_file_arguments =
    with_rule (with_rule (with_rule (new_app (codes "hall-file"))
    (option_rule (codes "hall") (numbers 0 4294967295))) (flag_rule (codes "keys")))
    (values_rule (codes "addr") any_text)

abbrev pub key_arguments : App
key_arguments = with_rule (new_app (codes "key")) (optional_value_rule (codes "file") any_text)

abbrev pub serve_arguments : App
serve_arguments =
    with_rule (with_rule (with_rule (with_rule (with_rule (with_rule (with_rule (with_rule
    (with_rule (with_rule (with_rule (with_rule (with_rule (with_rule
    (located_arguments (codes "serve")) (option_rule (codes "desk") (numbers 0 255)))
    (option_rule (codes "store") any_text)) (bound (flag_rule (codes "new"))))
    (bound (flag_rule (codes "new-hall")))) (optional_rule (codes "patience") 1 86400))
    (optional_rule (codes "connections") 1 1000000)) (optional_rule (codes "wire") 1 2))
    (optional_rule (codes "tick") 100 60000)) (flag_rule (codes "quiet")))
    (optional_value_rule (codes "entry-key") any_text))
    (bound (optional_value_rule (codes "old-key") any_text))) (flag_rule (codes "open-sheets")))
    explain_rule) (bound (optional_values_rule (codes "addr") any_text))

abbrev pub log_arguments : App
log_arguments =
    with_rule (with_rule (with_rule (with_rule (errand_arguments (codes "log"))
    (bound (optional_value_rule (codes "store") any_text))) (optional_rule (codes "from") 0 65536))
    (flag_rule (codes "long"))) (several 1 5 (optional_value_rule (codes "who") any_text))

abbrev pub status_arguments : App
status_arguments =
    with_rule (with_rule (with_rule (with_rule (with_rule (with_rule
    (located_arguments (codes "status"))
    (bound (several 1 5 (optional_value_rule (codes "to") any_text)))) wait_seconds_rule)
    (flag_rule (codes "json"))) (flag_rule (codes "watch"))) (bound (flag_rule (codes "all"))))
    explain_rule

-- the edition, how cumulative limits and how same names are imported, as it is typed
abbrev pub third : List Text
third = codes "3" ∷ []

abbrev pub as_single : List Text
as_single = codes "as-single" ∷ []

abbrev pub with_id : List Text
with_id = codes "id" ∷ []

-- the texts that are accepted at `import`
pub record ImportParsers : Type 0 where
  pub edition : Option ValueParser
  pub limits : Option ValueParser
  pub names : Option ValueParser
  pub begun : IsOneOf edition third
  pub limited : IsOneOf limits as_single
  pub named : IsOneOf names with_id

abbrev pub import_arguments : ImportParsers → App
import_arguments p =
    with_rule (with_rule (with_rule (with_rule (new_app (codes "import"))
    (option_rule (codes "wcif") any_text)) (optional_value_rule (codes "edition") p.edition))
    (optional_value_rule (codes "cumulative") p.limits))
    (optional_value_rule (codes "same-names") p.names)

abbrev pub export_arguments : App
export_arguments =
    with_rule (with_rule (new_app (codes "export")) (option_rule (codes "wcif") any_text))
    (flag_rule (codes "running"))

abbrev pub results_arguments : App
results_arguments = with_rule (new_app (codes "results")) (required_flag_rule (codes "json"))

abbrev pub enter_arguments : App
enter_arguments =
    with_rule (with_rule (errand_arguments (codes "enter")) (flag_rule (codes "wait")))
    (values_rule (codes "words") any_text)

abbrev pub lines_arguments : App
lines_arguments =
    with_rule (with_rule (with_rule (with_rule (with_rule (errand_arguments (codes "enter-lines"))
    (optional_rule (codes "first-id") 1 9223372036854775807)) (flag_rule (codes "wait")))
    (flag_rule (codes "progress"))) (flag_rule (codes "stop-at-refusal")))
    (flag_rule (codes "send-all"))

abbrev pub ask_arguments : App
ask_arguments =
    with_rule (errand_arguments (codes "ask"))
    (value_rule (codes "id") (numbers 1 9223372036854775807))

abbrev pub sheet_arguments : RoundParsers → App
sheet_arguments p =
    with_rule (with_rule (with_rule (with_rule (errand_arguments (codes "sheet"))
    (value_rule (codes "event") p.events)) (value_rule (codes "round") p.rounds))
    (last_value_rule (codes "position") (numbers 0 4294967295))) csv_rule

-- the texts that are accepted at `replay`, at `sheet` and at `import`
pub record Parsers : Type 0 where
  pub replay : RoundParsers
  pub sheet : RoundParsers
  pub imported : ImportParsers

abbrev pub desk_arguments : Parsers → App
desk_arguments p =
    with_subcommand (with_subcommand (with_subcommand (with_subcommand (with_subcommand
    (with_subcommand (with_subcommand (with_subcommand (with_subcommand (with_subcommand
    (with_subcommand (with_subcommand (with_subcommand (with_subcommand (with_subcommand
    (with_subcommand named_app (replay_arguments p.replay).top) (import_arguments p.imported).top)
    export_arguments.top) results_arguments.top) hall_arguments.top) hall_file_arguments.top)
    key_arguments.top) serve_arguments.top) status_arguments.top) log_arguments.top)
    enter_arguments.top) lines_arguments.top) ask_arguments.top) (sheet_arguments p.sheet).top)
    (errand_arguments (codes "tick")).top) (errand_arguments (codes "stop")).top

-- ---- what their values say

-- the subcommand of this name with these values makes the request
abbrev pub IsRequest : ClientRequest → Text → List Row → Type 0
IsRequest (request.Ask id) name rows =
    (name ≡ codes "ask") × IsId id × IsNumberAt (codes "id") rows id
IsRequest (request.Sheet event round position style) name rows =
    (name ≡ codes "sheet") × IsRound rows event round
    × IsNumberAt (codes "position") rows position × IsPrinted rows style
IsRequest request.Tick name rows = name ≡ codes "tick"
IsRequest request.Stop name rows = name ≡ codes "stop"

-- the file of a hall that is given, or else `hall.toml`; the hall has no number beside it, and this
-- argument, which has the address of a desk, has no value
pub record IsHallFile (file : Text) (address : Text) (rows : List Row) : Type 0 where
  pub file_is : IsTextOr (codes "config") (codes "hall.toml") rows file
  pub no_hall : first_of (codes "hall") rows ≡ None
  pub no_address : first_of address rows ≡ None

-- the number of a hall; there is no file beside it
pub record IsHall (hall : ℕ) (rows : List Row) : Type 0 where
  pub number : IsNumberAt (codes "hall") rows hall
  pub no_file : first_of (codes "config") rows ≡ None

-- which desk is asked, where, and under which key's file: that of a hall at an address, or one of
-- a file's
abbrev pub IsPlace : Place → List Row → Type 0
IsPlace (place.Desk hall desk address key) rows =
    IsHall hall rows × IsNumberAt (codes "desk") rows desk
    × (first_of (codes "to") rows ≡ Some address.now) × IsText (codes "key") rows key
IsPlace (place.File file desk key) rows =
    IsHallFile file.now (codes "to") rows × IsGiven (codes "desk") rows desk
    × IsText (codes "key") rows key

-- and for how many seconds it is waited for, 10 where none are given
pub record IsPlaced (p : Place) (patience : ℕ) (rows : List Row) : Type 0 where
  pub place : IsPlace p rows
  pub seconds : IsNumberOr (codes "patience") 10 rows patience

-- all values of an argument, from one to five
pub record AreFew (id : Text) (texts : List Text) (rows : List Row) : Type 0 where
  pub given : all_of id rows ≡ Some texts
  pub some : 1 ≤ length texts
  pub few : length texts ≤ 5

-- which desks are asked, where, and under which key's file: those of a hall at these addresses, or
-- a file's
abbrev pub AreDesks : DeskPlaces → List Row → Type 0
AreDesks (desks.Addresses hall addresses key) rows =
    IsHall hall rows × AreFew (codes "to") (map (λ a. a.now) addresses.now) rows
    × IsText (codes "key") rows key
AreDesks (desks.File file key) rows =
    IsHallFile file.now (codes "to") rows × IsText (codes "key") rows key

-- a word begins as the first one of a command does, with a capital letter
abbrev pub is_verb : Text → Bool
is_verb [] = false
is_verb (byte ∷ bytes) = nat_le 65 byte && nat_le byte 90

-- words are a command without an id before it: one, or several of which the first begins a command
abbrev pub are_command : List Text → Bool
are_command [] = false
are_command (word ∷ []) = true
are_command (word ∷ another ∷ more) = is_verb word

-- a command's id and its words, or its words alone
abbrev pub IsEntered : Option ℕ → List Text → List Row → Type 0
IsEntered (Some id) words rows =
    IsId id × (all_of (codes "words") rows ≡ Some (decimal id ∷ words))
    × (are_command (decimal id ∷ words) ≡ false)
IsEntered None words rows = (all_of (codes "words") rows ≡ Some words) × (are_command words ≡ true)

-- the id of the first line, or that none is given
pub record IsFirstId (id : Option ℕ) (rows : List Row) : Type 0 where
  pub given : IsGiven (codes "first-id") rows id
  pub in_range : IfSome id IsId

-- how lines are entered
pub record AreLines (lines : EnterOptions) (rows : List Row) : Type 0 where
  pub first_id : IsFirstId lines.first_id rows
  pub waits : IsFlag (codes "wait") rows lines.waits
  pub progress : IsFlag (codes "progress") rows lines.progress
  pub stops : IsFlag (codes "stop-at-refusal") rows lines.stops_at_refusal
  pub sends : IsFlag (codes "send-all") rows lines.sends_all

-- the number of a version of the wire
abbrev pub wire_number : Version → ℕ
wire_number version.One = 1
wire_number version.Two = 2
wire_number version.Three = 3
wire_number version.Four = 4
wire_number version.Five = 5

-- which desk it is, its file, for how many seconds a client may be silent, how many connections it
-- serves, the version in which it pushes, whether it says nothing of other desks, the files of its
-- keys, and whether sheets need none
pub record AreOptions (o : ServeOptions) (rows : List Row) : Type 0 where
  pub desk : IsNumberAt (codes "desk") rows o.desk
  pub store : first_of (codes "store") rows ≡ Some o.store.now
  pub patience : IsNumberOr (codes "patience") 30 rows o.patience
  pub connections : IsGiven (codes "connections") rows o.connections
  pub wire : IsNumberOr (codes "wire") 1 rows (wire_number o.wire)
  pub quiet : IsFlag (codes "quiet") rows o.quiet
  pub key : IsText (codes "key") rows o.key
  pub entry_key : IsText (codes "entry-key") rows o.entry_key
  pub old_key : IsText (codes "old-key") rows o.old_key
  pub open_sheets : IsFlag (codes "open-sheets") rows o.open_sheets

-- a desk of this hall, where its desks listen, and how it serves: its store is made where there is
-- none, and it ticks itself where that is asked for
pub record IsService (s : Service) (rows : List Row) : Type 0 where
  pub hall : IsHall s.hall rows
  pub addresses : all_of (codes "addr") rows ≡ Some (map (λ a. a.now) s.addresses.now)
  pub options : AreOptions s.options rows
  pub making : s.options.making ≡ origin.AsNeeded
  pub tick : IsGiven (codes "tick") rows s.options.tick

-- where the store of a desk of a file's hall comes from: `--new` makes it, and so does `--new-hall`
abbrev pub origin_of : (new new_hall : Bool) → StoreOrigin
origin_of new new_hall = if new || new_hall then origin.New else origin.Open

-- how a desk of a file's hall serves: whether its store is made, whether all desks of the hall are
-- new, and after how many milliseconds it ticks itself, 1,000 where none are given
pub record IsHallService (s : HallService) (rows : List Row) : Type 0 where
  pub options : AreOptions s.options rows
  pub new : Bool
  pub is_new : IsFlag (codes "new") rows new
  pub new_hall : IsFlag (codes "new-hall") rows s.new_hall
  pub making : s.options.making ≡ origin_of new s.new_hall
  pub tick : (n : ℕ) × (s.options.tick ≡ Some n) × IsNumberOr (codes "tick") 1000 rows n

-- the file of a stopped desk; no desk that runs is named beside it
pub record IsStored (store : Text) (rows : List Row) : Type 0 where
  pub given : first_of (codes "store") rows ≡ Some store
  pub no_file : first_of (codes "config") rows ≡ None
  pub no_hall : first_of (codes "hall") rows ≡ None
  pub no_address : first_of (codes "to") rows ≡ None

-- words that name a result: an event, a round and a competitor's number
abbrev pub AreWhose : List Text → LogFormOption → Type 0
AreWhose words (log_form.ChangesOf event round number) =
    (name : Text) × (event_of_name name ≡ Some event) × (1 ≤ round) × (round ≤ 4)
    × (1 ≤ number) × (number ≤ 9999) × (words ≡ name ∷ decimal round ∷ decimal number ∷ [])
AreWhose words _ = ⊥

-- the form of a log: lines, or with `--long` rows, or with `--who` those of one result
abbrev pub IsForm : List Row → LogFormOption → Type 0
IsForm rows log_form.Lines = IsFlag (codes "long") rows false × (all_of (codes "who") rows ≡ None)
IsForm rows log_form.Rows = IsFlag (codes "long") rows true × (all_of (codes "who") rows ≡ None)
IsForm rows (log_form.ChangesOf event round number) =
    (words : List Text) × (all_of (codes "who") rows ≡ Some words)
    × AreWhose words (log_form.ChangesOf event round number)

-- a desk that runs, and the position from which on its log is copied, 0 where none is given
pub record IsCopied (p : Place) (patience start : ℕ) (rows : List Row) : Type 0 where
  pub placed : IsPlaced p patience rows
  pub position : IsNumberOr (codes "from") 0 rows start
  pub within : start ≤ 65536
  pub no_store : first_of (codes "store") rows ≡ None

-- one of two, by whether the option is given
abbrev pub by_option : {A : Type 0} → Text → List Row → (given none : A) → A
by_option id rows given none = if is_some (first_of id rows) then given else none

-- a competition's file, and how it is imported: the list begins with edition 3 with `--edition 3`,
-- else with 4; what becomes of time limits for several attempts together, `--cumulative as-single`
-- or nothing; and of a name that several persons have, `--same-names id` or nothing
pub record IsImport (path : Text) (options : Options) (rows : List Row) : Type 0 where
  pub file : first_of (codes "wcif") rows ≡ Some path
  pub edition : options.edition ≡ by_option (codes "edition") rows edition.Three edition.Four
  pub limits : options.limits ≡ by_option (codes "cumulative") rows limits.AsSingle limits.Refuse
  pub names : options.names ≡ by_option (codes "same-names") rows names.WithId names.Refuse

abbrev pub IsTask : Task → Text → List Row → Type 0
IsTask (task.Replay replay) name rows = (name ≡ codes "replay") × IsReplay replay rows
IsTask (task.Import file options) name rows =
    (name ≡ codes "import") × IsImport file.now options rows
IsTask (task.Export file running) name rows =
    (name ≡ codes "export") × (first_of (codes "wcif") rows ≡ Some file.now)
    × IsFlag (codes "running") rows running
IsTask task.Results name rows = (name ≡ codes "results") × IsFlag (codes "json") rows true
IsTask (task.Hall desks) name rows = (name ≡ codes "hall") × IsNumberAt (codes "desks") rows desks
IsTask (task.HallFile hall addresses keys) name rows =
    (name ≡ codes "hall-file") × IsNumberAt (codes "hall") rows hall
    × (all_of (codes "addr") rows ≡ Some (map (λ a. a.now) addresses.now))
    × IsFlag (codes "keys") rows keys
IsTask (task.Key file) name rows = (name ≡ codes "key") × IsText (codes "file") rows file
IsTask (task.Carry place patience request) name rows =
    IsRequest request name rows × IsPlaced place patience rows
IsTask (task.Newest place patience event round style) name rows =
    (name ≡ codes "sheet") × IsPlaced place patience rows × IsRound rows event round
    × IsPrinted rows style × (first_of (codes "position") rows ≡ None)
IsTask (task.Enter place patience id words waits) name rows =
    (name ≡ codes "enter") × IsPlaced place patience rows
    × IsEntered id (map (λ w. w.now) words.now) rows × IsFlag (codes "wait") rows waits
IsTask (task.EnterLines place patience lines) name rows =
    (name ≡ codes "enter-lines") × IsPlaced place patience rows × AreLines lines rows
IsTask (task.Log store) name rows = (name ≡ codes "log") × IsStored store.now rows
IsTask (task.CopyLog place patience start form) name rows =
    (name ≡ codes "log") × IsCopied place patience start rows × IsForm rows form
IsTask (task.Status desks patience json watches all) name rows =
    (name ≡ codes "status") × AreDesks desks rows × IsNumberOr (codes "patience") 10 rows patience
    × IsFlag (codes "json") rows json × IsFlag (codes "watch") rows watches
    × IsFlag (codes "all") rows all
IsTask (task.Serve service) name rows =
    (name ≡ codes "serve") × IsService service rows
    × IsFlag (codes "new") rows false × IsFlag (codes "new-hall") rows false
IsTask (task.ServeHall file wanted) name rows =
    (name ≡ codes "serve") × IsHallFile file.now (codes "addr") rows × IsHallService wanted rows

-- the id of a request is in its range
abbrev pub HasId : ClientRequest → Type 0
HasId (request.Ask id) = IsId id
HasId _ = Unit {0}

-- the ids of a task are in their range
abbrev pub HasIds : Task → Type 0
HasIds (task.Carry place patience request) = HasId request
HasIds (task.Enter place patience id words waits) = IfSome id IsId
HasIds (task.EnterLines place patience lines) = IfSome lines.first_id IsId
HasIds _ = Unit {0}

abbrev pub Finds : Option (Text × List Row) → Task → Type 0
Finds found t = (name : Text) × (rows : List Row) × (found ≡ Some (name, rows)) × IsTask t name rows

-- whether `--explain` is among the values of the subcommand
abbrev pub FindsExplain : Option (Text × List Row) → Bool → Type 0
FindsExplain found explains =
    (name : Text) × (rows : List Row) × (found ≡ Some (name, rows))
    × IsFlag (codes "explain") rows explains

-- these arguments are parsed as a subcommand and the rows of its values, or as none
abbrev pub Parses : List Text → Option (Text × List Row) → Type 0
Parses given found = (p : Parsers) × (found ≡ subcommand_of (desk_arguments p) given)

-- the arguments, of which the first is the program's own name, ask for this
abbrev pub Asks : List Text → Task → Type 0
Asks given t = (p : Parsers) × Finds (subcommand_of (desk_arguments p) given) t

-- whether the arguments, of which the first is the program's own name, ask to explain faults
abbrev pub AsksToExplain : List Text → Bool → Type 0
AsksToExplain given explains =
    (p : Parsers) × FindsExplain (subcommand_of (desk_arguments p) given) explains
