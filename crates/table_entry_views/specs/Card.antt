-- The form of a card (the project's own).
use Rattle.std.specs.Prelude.{ℕ, Bool, true, false, if◌then◌else◌, List, [], ◌∷◌, ◌++◌, codes}
use Rattle.std.specs.Prelude.{decimal, flat_map, Option, unwrap_or}
use Rattle.std.specs.List.{list_any}
use Rattle.attempts.specs.declared.{Unit.Unit as Measure, Value.Value}
use Rattle.attempts.specs.declared.Unit.TheVariants.{Time, Moves, Multi}
use Rattle.formats.specs.{Events.format_name, Events.unit_of, declared.events.Format.Format}
use Rattle.round_words.specs.Words.{round_name, round_words, settings_words}
use Rattle.texts.specs.Spelling.{cutoff_text, limit_text, was_text}
use Rattle.texts.specs.declared.command.{Command.Command, RoundId.RoundId, Settings.Settings}
use Rattle.markup.specs.Pieces.{fill}
use Rattle.table_views.specs.Hidden.{hidden}
use Rattle.table_entry_views.specs.declared.{draft.Draft.Draft, notes.CardNote.CardNote}
use Rattle.table_entry_views.specs.{Bounds.floor_of, Notes.is_fault, Notes.note_at, Notes.note_word}
use Rattle.table_entry_views.specs.Fields.{fields, notes_of, number_field}
use Rattle.table_entry_views.specs.declared.card.TheConstants.{BOUNDS, CLOSED_START, RULES_OF_FORM}
use Rattle.table_entry_views.specs.declared.card.TheConstants.{SPARE, SURE_END, TOLD_FAULT}

abbrev pub unit_name : Measure → List ℕ
unit_name Time = codes "time"
unit_name Moves = codes "moves"
unit_name Multi = codes "multi"

-- the beginning of the form: what the script reads of the round's rules
abbrev pub rules_of_form : Settings → Measure → List ℕ
rules_of_form settings unit =
    fill RULES_OF_FORM.now (unit_name unit ∷ format_name settings.format
    ∷ cutoff_text settings.cutoff ∷ limit_text settings.limit ∷ [])

-- the times below which the script asks, in what the unit counts: the floor of the event, and the
-- best single of the round; 0 where there is none
abbrev pub bounds_of_form : ℕ → Option ℕ → List ℕ
bounds_of_form floor best = fill BOUNDS.now (decimal floor ∷ decimal (unwrap_or best 0) ∷ [])

-- a spare id, after a space
abbrev pub spare : ℕ → List ℕ
spare id = fill SPARE.now (decimal id ∷ [])

-- the round of a form, unseen
unfoldable pub round_value : RoundId → List ℕ
round_value id =
    codes "<input type=\"hidden\" name=\"round\" value=\"" ++ round_name id ++ codes "\">\n"

-- what the page shows that counts, as `CARD` spells it, unseen
abbrev pub was_value : List Value → List ℕ
was_value values =
    codes "<input type=\"hidden\" name=\"was\" value=\"" ++ was_text values ++ codes "\">\n"

-- the tag of the form: the round's rules, the times below which the script asks, and spare ids
unfoldable pub form_tag : List ℕ → RoundId → Settings → Option ℕ → List ℕ
form_tag spares round settings best =
    rules_of_form settings (unit_of round.event) ++ bounds_of_form (floor_of round.event) best
    ++ spares ++ codes "\">\n"

-- the form carries its token and its id, spare ids for the script, the round, and what its page
-- shows that counts
abbrev pub form_start : List ℕ → ℕ → List ℕ → RoundId → Settings → Option ℕ → List Value → List ℕ
form_start token id spares round settings best values =
    form_tag spares round settings best ++ hidden token id ++ round_value round ++ was_value values

-- the word of a note that is to be confirmed, after a space
abbrev pub asked_word : CardNote → List ℕ
asked_word note = codes " " ++ note_word note

unfoldable pub told_sure : List CardNote → List ℕ
told_sure notes =
    codes "<input type=\"hidden\" name=\"sure\" value=\"" ++ flat_map asked_word notes
    ++ SURE_END.now

-- a card that is not entered yet is to be mended, or to be confirmed: then the form says which
-- notes it answers
abbrev pub told : List CardNote → List ℕ
told [] = []
told (note ∷ notes) =
    if list_any is_fault (note ∷ notes) then TOLD_FAULT.now else told_sure (note ∷ notes)

unfoldable pub closed_words : RoundId → List ℕ
closed_words id =
    CLOSED_START.now ++ round_name id ++ codes "\">can be opened again</a>.</p>\n"

-- before anything is typed, a round that is closed is said to be so
abbrev pub closed_line : RoundId → Bool → List ℕ
closed_line id true = closed_words id
closed_line id false = []

-- the round and its rules
abbrev pub card_head : RoundId → Settings → List ℕ
card_head id settings =
    codes "<section id=\"card\"><h1>" ++ round_words id settings.advance
    ++ codes "</h1>\n<p class=\"rules\">"
    ++ settings_words id.event settings ++ codes "</p>\n"

-- what is said of the card, and its fields
abbrev pub card_fields : List Command → RoundId → Format → List Value → List (List ℕ) → Draft
    → List ℕ
card_fields accepted id format values filled draft =
    told (notes_of draft) ++ flat_map (note_at 6) (notes_of draft) ++ number_field accepted draft
    ++ fields draft (unit_of id.event) values filled format
