-- The form that changes how a round is run (the project's own).
use Rattle.std.specs.Prelude.{ℕ, Bool, true, false, if◌then◌else◌, List, [], ◌++◌, codes, get_or}
use Rattle.std.specs.Prelude.{Some}
use Rattle.formats.specs.declared.events.Event.{Event, TheVariants.FewestMoves}
use Rattle.rounds.specs.Tables.{Table, is_attempted}
use Rattle.texts.specs.declared.command.{RoundId.RoundId, Settings.Settings}
use Rattle.table_views.specs.{declared.around.PageContext.PageContext, Logs.accepted_in}
use Rattle.table_views.specs.{Editions.is_latest, Forms.button, Forms.round_form}
use Rattle.table_round_views.specs.Opening.{rule_fields}
use Rattle.table_round_views.specs.declared.changing.TheConstants.{EARLY_RULES, EARLY_SCRAMBLE}
use Rattle.table_round_views.specs.declared.changing.TheConstants.{SETTINGS_HEAD}

-- what holds now is chosen beforehand
unfoldable pub settings_form : List ℕ → ℕ → RoundId → Settings → List ℕ
settings_form token form id settings =
    SETTINGS_HEAD.now ++ round_form token form (codes "SET") id
    ++ rule_fields id.event (Some settings.format) settings.cutoff settings.limit
    ++ button (codes "Change format, cutoff and limit")

-- the form, while nobody has an attempt
abbrev pub settings_form_if : Bool → List ℕ → ℕ → RoundId → Settings → List ℕ
settings_form_if true token form id settings = []
settings_form_if false token form id settings = settings_form token form id settings

-- what edition 4 would allow in an open round: of fewest moves a scramble can be changed too
abbrev pub early_words : Event → Bool → List ℕ
early_words FewestMoves attempted = EARLY_SCRAMBLE.now
early_words _ true = []
early_words _ false = EARLY_RULES.now

-- the form, in edition 4; before it, what edition 4 would allow
abbrev pub changing : PageContext → RoundId → Settings × Table → List ℕ
changing around id round =
    if is_latest (accepted_in around.mirror.now)
    then settings_form_if (is_attempted round.1 1) around.token.now (get_or around.ids.now 5 0) id
    round.0
    else early_words id.event (is_attempted round.1 1)
