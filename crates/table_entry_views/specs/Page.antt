-- The page of a card (the project's own).
use Rattle.std.specs.Prelude.{◌≡◌, ℕ, List, ◌++◌, codes, flat_map, drop, get_or, Bool, true, false}
use Rattle.std.specs.Prelude.{Option, None, Some}
use Rattle.rounds.specs.Tables.{Table}
use Rattle.round_words.specs.Words.{round_name, round_words}
use Rattle.texts.specs.declared.command.{RoundId.RoundId, Settings.Settings}
use Rattle.table_views.specs.{declared.around.PageContext.PageContext, Logs.accepted_in}
use Rattle.table_views.specs.Editions.{edition_form, is_latest}
use Rattle.table_views.specs.{Frame.top, Frame.bottom, Recent.recent_section}
use Rattle.table_entry_views.specs.declared.{draft.Draft.Draft, past.Past.Past}
use Rattle.table_entry_views.specs.{Beside.section, Bounds.best_in, Fields.standing_of}
use Rattle.table_entry_views.specs.Card.{card_head, card_fields, closed_line, form_start, spare}
use Rattle.table_entry_views.specs.{Leaving.leaving_line, Origin.origin_line}
use Rattle.table_entry_views.specs.declared.card.TheConstants.{FORM_END}

-- The form of the card carries the token, the first id, the other ids as spare ones, and the values
-- that the page shows as counting. It says where these come from. It links to the history of the
-- result, and to the page on which somebody without an attempt is withdrawn.
unfoldable pub card_form : PageContext → RoundId → Settings × Table → Draft → Past → List ℕ
card_form around id round draft past =
    form_start around.token.now (get_or around.ids.now 0 0)
    (flat_map spare (drop 1 around.ids.now)) id round.0 (best_in round.1)
    (standing_of round.1 draft)
    ++ origin_line past.origin ++ leaving_line id round.1 draft
    ++ card_fields (accepted_in around.mirror.now) id round.0.format (standing_of round.1 draft)
    past.filled.now draft ++ FORM_END.now

abbrev pub card_path : RoundId → List ℕ
card_path id = codes "/card/" ++ round_name id

-- in place of the form: the one that moves to edition 4
abbrev pub no_form : PageContext → RoundId → List ℕ
no_form around id =
    edition_form around.token.now (get_or around.ids.now 0 0) (card_path id)
    ++ codes "</section>\n"

abbrev pub form_if : Bool → PageContext → RoundId → Settings × Table → Draft → Past → List ℕ
form_if true around id round draft past = card_form around id round draft past
form_if false around id round draft past = no_form around id

-- the section of the card: the round and its rules, whether it is closed, and the form. In a hall
-- of an earlier edition no card is taken.
unfoldable pub card_section : PageContext → RoundId → Settings × Table → Draft → Past → List ℕ
card_section around id round draft past =
    card_head id round.0 ++ closed_line id round.1.is_closed
    ++ form_if (is_latest (accepted_in around.mirror.now)) around id round draft past

-- what is before the round
unfoldable pub front : PageContext → RoundId → Settings × Table → Draft → Past → List ℕ
front around id round draft past =
    top (codes "entry") (round_words id round.0.advance) around
    ++ card_section around id round draft past
    ++ recent_section around

-- the page of a card of a round
abbrev pub page_of : PageContext → RoundId → Settings × Table → Draft → Past → List ℕ
page_of around id round draft past =
    front around id round draft past ++ section (accepted_in around.mirror.now) id round ++ bottom

-- the page of a card, where the round was opened
abbrev pub IsCardPage : PageContext → RoundId → Draft → Past → Option (Settings × Table)
    → Option (List ℕ) → Type 0
IsCardPage around id draft past None page = page ≡ None
IsCardPage around id draft past (Some round) page =
    page ≡ Some (page_of around id round draft past)
