-- Blank scorecards of a round (the project's own).
use Rattle.std.specs.Prelude.{◌≡◌, ℕ, zero, suc, ◌-◌, ◌%◌, ◌==◌, if◌then◌else◌, List, [], ◌∷◌}
use Rattle.std.specs.Prelude.{◌++◌, codes, decimal, flat_map, length, Option, None, Some}
use Rattle.std.specs.Prelude.{option_map, unwrap_or}
use Rattle.markup.specs.{board_page.Escaped.escaped, Pieces.fill}
use Rattle.commands.specs.Accepted.{name_of}
use Rattle.competition_file.specs.declared.groups.Seat.{Seat}
use Rattle.rounds.specs.Tables.{Table, standings}
use Rattle.round_counts.specs.Counts.{numbers_in}
use Rattle.round_words.specs.Words.{round_words, settings_words}
use Rattle.texts.specs.declared.command.{Command.Command, RoundId.RoundId, Settings.Settings}
use Rattle.table_entry_views.specs.{paper.Foot.foot, paper.Frame.top, paper.Lists.lists}
use Rattle.table_entry_views.specs.declared.paper.frame.TheConstants.{BOTTOM}
use Rattle.table_entry_views.specs.declared.paper.blank_cards.TheConstants.{ATTEMPT, CARD_START}
use Rattle.table_entry_views.specs.declared.paper.blank_cards.TheConstants.{CARD_TABLE, GROUP}
use Rattle.table_entry_views.specs.declared.paper.blank_cards.TheConstants.{CARD_TABLE_END, NOBODY}
use Rattle.table_entry_views.specs.declared.paper.blank_cards.TheConstants.{STATION, WHO}
use Rattle.table_entry_views.specs.declared.paper.card_order.CardSlot.{CardSlot}
use Rattle.table_entry_views.specs.paper.Seating.{AreSeated, wca_id}

-- after the attempts that the cutoff counts there is a line
abbrev pub row_class : Option (ℕ × ℕ) → ℕ → List ℕ
row_class None attempt = codes "attempt"
row_class (Some cutoff) attempt =
    if cutoff.0 == attempt then codes "cutoff" else codes "attempt"

abbrev pub attempt_row : Option (ℕ × ℕ) → ℕ → List ℕ
attempt_row cutoff attempt = fill ATTEMPT.now (row_class cutoff attempt ∷ decimal attempt ∷ [])

abbrev pub card_start : List ℕ → List ℕ
card_start hall = fill CARD_START.now (escaped hall ∷ [])

abbrev pub station_words : Option ℕ → List ℕ
station_words None = []
station_words (Some station) = fill STATION.now (decimal station ∷ [])

-- where a competitor sits
abbrev pub seat_words : Option Seat → List ℕ
seat_words None = []
seat_words (Some seat) = fill GROUP.now (decimal seat.group ∷ []) ++ station_words seat.station

-- whose card it is
abbrev pub who : ℕ → List ℕ → List ℕ → List ℕ → List ℕ
who number name wca_id seat =
    fill WHO.now (seat ∷ decimal number ∷ escaped name ∷ escaped wca_id ∷ [])

-- the card of an entrant, or of nobody: hall, round, whose it is, a row for each attempt and two
-- for extra ones, the rules, and what is below them
unfoldable pub blank_card : List ℕ → RoundId → Settings → List ℕ → List ℕ → List ℕ
blank_card hall id settings below whose =
    card_start hall ++ round_words id settings.advance ++ whose ++ CARD_TABLE.now
    ++ flat_map (attempt_row settings.cutoff) (numbers_in settings.format) ++ CARD_TABLE_END.now
    ++ settings_words id.event settings ++ below

abbrev pub card_with : Option (List ℕ) → List ℕ → RoundId → Settings → List ℕ → CardSlot → List ℕ
    → List ℕ
card_with file hall id settings below s name =
    blank_card hall id settings below
    (who s.number name (wca_id file s.number) (seat_words s.seat))

-- the card of a slot
abbrev pub card_of : List Command → Option (List ℕ) → List ℕ → RoundId → Settings → List ℕ
    → CardSlot → List ℕ
card_of accepted file hall id settings below s =
    unwrap_or (option_map (card_with file hall id settings below s) (name_of accepted s.number)) []

-- cards of nobody
abbrev pub blanks : List ℕ → RoundId → Settings → List ℕ → ℕ → List ℕ
blanks hall id settings below zero = []
blanks hall id settings below (suc n) =
    blanks hall id settings below n ++ blank_card hall id settings below NOBODY.now

abbrev pub cards_with : List Command → Option (List ℕ) → List ℕ → RoundId → Settings → List ℕ
    → List CardSlot → List ℕ
cards_with accepted file hall id settings below seated =
    top (codes "scorecards") hall
    ++ flat_map (card_of accepted file hall id settings below) seated
    ++ blanks hall id settings below (4 - length seated % 4) ++ lists file id settings.advance
    ++ BOTTOM.now

abbrev pub cards_text : List Command → Option (List ℕ) → List ℕ → RoundId → Settings
    → List CardSlot → List ℕ
cards_text accepted file hall id settings seated =
    cards_with accepted file hall id settings (foot file id settings.advance) seated

-- a card for each entrant, by groups and stations and else by name, the last page filled, and the
-- lists of the groups
pub record IsCardsPage (accepted : List Command) (file : Option (List ℕ)) (hall : List ℕ)
    (id : RoundId) (settings : Settings) (table : Table) (page : List ℕ) : Type 0 where
  pub seated : List CardSlot
  pub are : AreSeated accepted file id (standings table) seated
  pub is : page ≡ cards_text accepted file hall id settings seated

abbrev pub IsThere : List Command → Option (List ℕ) → List ℕ → RoundId → Settings × Table
    → Option (List ℕ) → Type 0
IsThere accepted file hall id round None = ⊥
IsThere accepted file hall id round (Some page) =
    IsCardsPage accepted file hall id round.0 round.1 page

-- the page, where the round was opened
abbrev pub IsScorecards : List ℕ → List Command → Option (List ℕ) → RoundId
    → Option (Settings × Table) → Option (List ℕ) → Type 0
IsScorecards hall accepted file id None page = page ≡ None
IsScorecards hall accepted file id (Some round) page =
    IsThere accepted file hall id round page
