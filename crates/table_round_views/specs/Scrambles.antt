-- The scrambles of fewest moves (the project's own).
use Rattle.std.specs.Prelude.{ℕ, Bool, true, false, if◌then◌else◌, nat_le, List, [], ◌∷◌, ◌++◌}
use Rattle.std.specs.Prelude.{codes, decimal, get_or, Option, None, Some}
use Rattle.markup.specs.{board_page.Escaped.escaped, Pieces.fill}
use Rattle.commands.specs.Accepted.{scramble_of}
use Rattle.cube.specs.{declared.moves.Move.Move, notation.Notation.spelling}
use Rattle.formats.specs.declared.events.Event.{Event, TheVariants.FewestMoves}
use Rattle.texts.specs.declared.command.{Command.Command, RoundId.RoundId}
use Rattle.table_views.specs.{declared.around.PageContext.PageContext, Logs.accepted_in}
use Rattle.table_views.specs.{Editions.is_latest, Forms.button, Forms.round_form, Forms.text_field}
use Rattle.table_round_views.specs.declared.scrambles.TheConstants.{NO_SCRAMBLES, STANDING}

abbrev pub scramble_shown : ℕ → List ℕ → List ℕ
scramble_shown attempt text = fill STANDING.now (decimal attempt ∷ escaped text ∷ [])

-- a form with the scramble of an attempt: the word of its command, what its field is filled in
-- with, and what its button says
unfoldable pub scramble_form : List ℕ → List ℕ → List ℕ → List ℕ → ℕ → RoundId → ℕ → List ℕ
scramble_form command moves words token form id attempt =
    round_form token form command id
    ++ text_field (codes "attempt") (codes "Scramble of attempt") (decimal attempt)
    ++ text_field (codes "moves") (codes "moves") moves ++ button words

-- the form that sets the scramble of an attempt
abbrev pub setting : List ℕ → ℕ → RoundId → ℕ → List ℕ
setting token form id attempt =
    scramble_form (codes "SCR") [] (codes "Set the scramble") token form id attempt

-- the form that changes it, in edition 4
abbrev pub rescrambling : Bool → List ℕ → List ℕ → ℕ → RoundId → ℕ → List ℕ
rescrambling true moves token form id attempt =
    scramble_form (codes "RSC") moves (codes "Change the scramble") token form id attempt
rescrambling false moves token form id attempt = []

unfoldable pub standing_scramble : Bool → List Move → List ℕ → ℕ → RoundId → ℕ → List ℕ
standing_scramble mends moves token form id attempt =
    scramble_shown attempt (spelling moves)
    ++ rescrambling mends (spelling moves) token form id attempt

abbrev pub scramble_or_form : Bool → Option (List Move) → List ℕ → ℕ → RoundId → ℕ → List ℕ
scramble_or_form mends (Some moves) token form id attempt =
    standing_scramble mends moves token form id attempt
scramble_or_form mends None token form id attempt = setting token form id attempt

-- the scramble that an attempt has, with the form that changes it, or the form that sets it
abbrev pub scramble_at : List Command → List ℕ → ℕ → RoundId → ℕ → List ℕ
scramble_at accepted token form id attempt =
    scramble_or_form (is_latest accepted) (scramble_of accepted id.event id.round attempt) token
    form id attempt

abbrev pub scramble_if : PageContext → ℕ → RoundId → ℕ → ℕ → List ℕ
scramble_if around form id count attempt =
    if nat_le attempt count
    then scramble_at (accepted_in around.mirror.now) around.token.now form id attempt else []

-- a round of fewest moves has at most three attempts
unfoldable pub all_scrambles : PageContext → RoundId → ℕ → List ℕ
all_scrambles around id count =
    NO_SCRAMBLES.now ++ scramble_if around (get_or around.ids.now 2 0) id count 1
    ++ scramble_if around (get_or around.ids.now 3 0) id count 2
    ++ scramble_if around (get_or around.ids.now 4 0) id count 3

-- at other events there are none
abbrev pub scrambles : Event → PageContext → RoundId → ℕ → List ℕ
scrambles FewestMoves around id count = all_scrambles around id count
scrambles _ around id count = []
