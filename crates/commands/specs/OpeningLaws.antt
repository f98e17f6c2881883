-- Laws of openings (the project's own).
use Rattle.std.specs.Prelude.{◌≡◌, ℕ, false, List, [], ◌∷◌, ◌++◌, Option, None}
use Rattle.std.specs.{List.list_any, Option.option_or, Option.option_map}
use Rattle.formats.specs.declared.events.Event.{Event}
use Rattle.texts.specs.declared.command.{Command.Command, RoundId.RoundId, Settings.Settings}
use Rattle.texts.specs.declared.command.Command.TheVariants.{Open, Cancel}
use Rattle.commands.specs.Accepted.{Opened, opened, opening, is_cancelled, refusal, round_of}

-- a round as the first command to open it opened it; `earlier` are the commands in front of these
abbrev pub first_opened : Event → ℕ → List Command → List Command → Option Opened
first_opened e r earlier [] = None
first_opened e r earlier (c ∷ cs) =
    option_or (option_map (λ settings. record {
      before =
          earlier;
      settings = settings;
      since = cs;
    }) (opening e r c)) (first_opened e r (earlier ++ c ∷ []) cs)

-- a round that no command takes back is as its first opening opened it, with all commands since
abbrev pub FirstOpeningHolds : Type 0
FirstOpeningHolds =
    (e : Event) (r : ℕ) (earlier cs : List Command) → list_any (is_cancelled e r) cs ≡ false
    → opened e r earlier cs ≡ first_opened e r earlier cs

-- if a round is opened and that is taken back, with nothing between, each round is as it was before
abbrev pub CancelsAsBefore : Type 0
CancelsAsBefore =
    (cs : List Command) (id : RoundId) (settings : Settings) (e : Event) (r : ℕ)
    → refusal cs (Open id settings) ≡ None
    → round_of (cs ++ Open id settings ∷ Cancel id ∷ []) e r ≡ round_of cs e r
