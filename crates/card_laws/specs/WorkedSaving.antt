-- Worked by hand: two cards of one entrant in a hall's log. The first is reported saved; the
-- second, over what counted before the first, is reported changed.
use Rattle.std.specs.Prelude.{◌≡◌, List, [], ◌∷◌, codes, Some, None}
use Rattle.acceptor.specs.declared.entry.Entry.{Entry}
use Rattle.formats.specs.declared.events.Event.TheVariants.{Cube3}
use Rattle.texts.specs.Fields.{card_entry, round_id}
use Rattle.texts.specs.declared.command.{CardEntry.CardEntry, Command.TheVariants.Card}
use Rattle.outbox.specs.{Cards.Says, States.state_of, Worked.entry}
use Rattle.attempts.specs.declared.Value.TheVariants as value
use Rattle.texts.specs.declared.command.Entered.TheVariants as entered
use Rattle.outbox.specs.declared.state.ItemState.TheVariants as state

abbrev pub first : Entry
first = entry 6 (codes "CARD 333 1 1 1043 =/T:998:1")

abbrev pub second : Entry
second = entry 7 (codes "CARD 333 1 1 1043 =/T:1200:0")

-- 10.43 counts, and a second attempt of 9.98 with a penalty is written beside it
abbrev pub card : CardEntry
card =
    card_entry (round_id Cube3 1) 1 (value.Number 1043 ∷ []) (None ∷ Some (entered.Time 998 1) ∷ [])

abbrev pub hall_log : List Entry
hall_log =
    entry 1 (codes "EDITION 4") ∷ entry 2 (codes "REG 1 Ann")
    ∷ entry 3 (codes "OPEN 333 1 ao5 - 60000 final") ∷ entry 4 (codes "ENT 333 1")
    ∷ entry 5 (codes "ATT 333 1 1 1 T:1043:0") ∷ first ∷ second ∷ []

pub record WorksSaved : Type 0 where
  pub says : Says first (Card card)
  pub saved : state_of hall_log first ≡ state.Saved 5
  pub changed : state_of hall_log second ≡ state.Changed 6
