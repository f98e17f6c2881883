-- The line that says of a round's limit that it is for several attempts together, by a
-- competition's file (the project's own).
use Rattle.std.specs.Prelude.{ℕ, List, [], ◌∷◌, flat_map, Option, None, Some}
use Rattle.attempts.specs.{Texts.value_text, declared.Unit.TheVariants.Time}
use Rattle.attempts.specs.declared.Value.TheVariants.{Number}
use Rattle.competition_file.specs.Limits.{cumulative_limit, limit_rounds, round_of}
use Rattle.markup.specs.{board_page.Escaped.escaped, Pieces.fill}
use Rattle.serde_json.specs.Data.{Data}
use Rattle.texts.specs.declared.command.RoundId.{RoundId}
use Rattle.wcif.specs.Persons.{text_of}
use Rattle.record_views.specs.declared.together.TheConstants.{ROUND_ID, TOGETHER}

abbrev pub round_id_words : Data → List ℕ
round_id_words id = fill ROUND_ID.now (escaped (text_of id) ∷ [])

-- the limit, and the ids of the rounds whose attempts it is for
abbrev pub limit_words : Data → ℕ → List ℕ
limit_words round limit =
    fill TOGETHER.now (value_text Time (Number limit)
    ∷ flat_map round_id_words (limit_rounds round) ∷ [])

abbrev pub limit_line : Data → Option ℕ → List ℕ
limit_line round None = []
limit_line round (Some limit) = limit_words round limit

-- the limit of a round of the file, where it is one for several attempts together
abbrev pub round_limit : Data → List ℕ
round_limit round = limit_line round (cumulative_limit round)

abbrev pub line_of : Option Data → List ℕ
line_of None = []
line_of (Some round) = round_limit round

-- such a limit of the round with an id, in the file with these data
unfoldable pub together : Data → RoundId → List ℕ
together file id = line_of (round_of id file)
