-- The bar of every page: how the desks are doing (the project's own).
use Rattle.std.specs.Prelude.{ℕ, ◌/◌, Bool, true, false, List, [], ◌∷◌, ◌++◌, codes, decimal}
use Rattle.std.specs.Prelude.{flat_map, length, Option, None, Some, nat_le, if◌then◌else◌}
use Rattle.markup.specs.Pieces.{fill}
use Rattle.sealed.specs.declared.ends.trouble.CallTrouble.{CallTrouble}
use Rattle.wire.specs.declared.{standing.Difference.Difference, values.ClientRefusal.ClientRefusal}
use Rattle.wire.specs.declared.standing.Difference.TheVariants.{OtherEntry, Shorter}
use Rattle.table_views.specs.declared.{bar.DesksHealth.DesksHealth, desks.HallStatus.HallStatus}
use Rattle.table_views.specs.Counts.{are_away, number_start, number_word}
use Rattle.table_views.specs.Desks.{is_everywhere, too_few}
use Rattle.table_views.specs.declared.bar.TheConstants.{AND_MACHINE, AWAY, BAR_END, BAR_START}
use Rattle.table_views.specs.declared.bar.TheConstants.{LOOK_AT, OTHER_ENTRY, OTHER_HALL, SHORTER}
use Rattle.table_views.specs.declared.bar.TheConstants.{SILENT, STOP, UNDECIDED, WELL}
use Rattle.sealed.specs.declared.ends.trouble.CallTrouble.TheVariants as trouble
use Rattle.wire.specs.declared.values.ClientRefusal.TheVariants as refusal
use Rattle.table_views.specs.declared.bar.DesksHealth.TheVariants as doing

-- ---- how they are doing

-- two seconds or longer
abbrev pub too_long : Option ℕ → Option ℕ
too_long None = None
too_long (Some milliseconds) = if nat_le 2000 milliseconds then Some milliseconds else None

-- a desk that does not allow it lets callers without a key look
abbrev pub refused_key : ClientRefusal → Option CallTrouble
refused_key refusal.NotAllowed = Some trouble.HasKey
refused_key _ = None

abbrev pub key_by : Option CallTrouble → Option (ℕ × ClientRefusal) → Option CallTrouble
key_by (Some wrong) refused = Some wrong
key_by None (Some refused) = refused_key refused.1
key_by None None = None

-- what is wrong with the key of this table
abbrev pub key_trouble : HallStatus → Option CallTrouble
key_trouble desks = key_by desks.trouble desks.refused

abbrev pub calm_of : HallStatus → List ℕ → DesksHealth
calm_of desks [] = if is_everywhere desks 0 then doing.Well else doing.Asked
calm_of desks (desk ∷ others) = doing.Away

abbrev pub slow_or : Option ℕ → Option ℕ → HallStatus → DesksHealth
slow_or (Some silent) undecided desks = doing.Silent silent
slow_or None (Some undecided) desks = doing.Undecided undecided
slow_or None None desks = calm_of desks desks.away.items

abbrev pub few_or : Bool → HallStatus → DesksHealth
few_or true desks = doing.Few
few_or false desks = slow_or (too_long desks.silent) (too_long desks.undecided) desks

abbrev pub differs_or : Option Difference → HallStatus → DesksHealth
differs_or (Some difference) desks = doing.Differs difference
differs_or None desks = few_or (too_few desks) desks

abbrev pub other_hall_or : Option ℕ → HallStatus → DesksHealth
other_hall_or (Some desk) desks = doing.OtherHall desk
other_hall_or None desks = differs_or desks.differs desks

abbrev pub locked_or : Option CallTrouble → HallStatus → DesksHealth
locked_or (Some wrong) desks = doing.Locked wrong
locked_or None desks = other_hall_or desks.of_other_hall desks

-- that the key is wrong; else that a machine is of another hall; else that one differs; else that
-- no majority answers; else that the machine that is followed does not, or that nothing is decided;
-- else which machines are away; else all is well
abbrev pub doing_of : HallStatus → DesksHealth
doing_of desks = locked_or (key_trouble desks) desks

-- ---- in words

abbrev pub class_of : DesksHealth → List ℕ
class_of doing.Away = codes "away"
class_of doing.Asked = codes "away"
class_of doing.Well = codes "well"
class_of _ = codes "lost"

abbrev pub key_words : CallTrouble → List ℕ
key_words trouble.HasKey =
    codes "This table cannot enter: it has no key. Name its file in hall.toml, and start again."
key_words trouble.OtherKey =
    codes "This table cannot enter: the desks have another key. Copy it again, and start again."
key_words trouble.NoKey =
    codes "This table cannot enter: it has a key, and the desks have none. Start them with the key."

abbrev pub other_hall_words : ℕ → List ℕ
other_hall_words desk = fill OTHER_HALL.now (decimal desk ∷ [])

-- how many machines are away
abbrev pub away_words : List ℕ → List ℕ
away_words away =
    fill AWAY.now (number_start (length away) ∷ are_away (length away) ∷ [])

abbrev pub and_machine : ℕ → List ℕ
and_machine desk = fill AND_MACHINE.now (decimal desk ∷ [])

unfoldable pub look_at : ℕ → List ℕ → List ℕ
look_at desk others =
    fill LOOK_AT.now (decimal desk ∷ []) ++ flat_map and_machine others
    ++ codes "."

-- which machines somebody has to look after
abbrev pub look_words : List ℕ → List ℕ
look_words [] = codes ""
look_words (desk ∷ others) = look_at desk others

abbrev pub few_words : List ℕ → List ℕ
few_words away =
    away_words away
    ++ codes " Continue: cards are kept here, and sent once more than half of the machines answer."
    ++ look_words away

abbrev pub silent_words : ℕ → ℕ → List ℕ
silent_words desk milliseconds = fill SILENT.now (decimal (milliseconds / 1000) ∷ decimal desk ∷ [])

abbrev pub undecided_words : ℕ → List ℕ
undecided_words milliseconds = fill UNDECIDED.now (decimal (milliseconds / 1000) ∷ [])

abbrev pub well_words : ℕ → List ℕ
well_words machines =
    fill WELL.now (number_word machines ∷ [])

abbrev pub differs_words : Difference → List ℕ
differs_words (OtherEntry desk position) =
    fill OTHER_ENTRY.now (decimal desk ∷ decimal position ∷ STOP.now ∷ [])
differs_words (Shorter desk len) = fill SHORTER.now (decimal desk ∷ decimal len ∷ STOP.now ∷ [])

abbrev pub words_of : HallStatus → DesksHealth → List ℕ
words_of desks (doing.Locked wrong) = key_words wrong
words_of desks (doing.OtherHall desk) = other_hall_words desk
words_of desks (doing.Differs difference) = differs_words difference
words_of desks doing.Few = few_words desks.away.items
words_of desks (doing.Silent milliseconds) = silent_words desks.followed milliseconds
words_of desks (doing.Undecided milliseconds) = undecided_words milliseconds
words_of desks doing.Away = away_words desks.away.items ++ look_words desks.away.items
words_of desks doing.Asked = codes "The machines are asked."
words_of desks doing.Well = well_words (length desks.lengths.items)

-- ---- the bar

abbrev pub bar_start : DesksHealth → List ℕ
bar_start doing = fill BAR_START.now (class_of doing ∷ [])

abbrev pub bar_end : ℕ → List ℕ
bar_end position =
    fill BAR_END.now (decimal position ∷ [])

unfoldable pub bar_of : HallStatus → DesksHealth → ℕ → List ℕ
bar_of desks doing position = bar_start doing ++ words_of desks doing ++ bar_end position

-- what is read aloud is how the desks are doing, and not each position
abbrev pub bar : HallStatus → ℕ → List ℕ
bar desks position = bar_of desks (doing_of desks) position
