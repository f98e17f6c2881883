-- A journal, and what a log says, worked by hand.
use Rattle.std.specs.Prelude.{◌≡◌, ℕ, List, [], ◌∷◌, ◌++◌, codes, Ok, Err}
use Rattle.acceptor.specs.declared.entry.Entry.{Entry}
use Rattle.texts.specs.declared.command.Command.TheVariants.{SetEdition}
use Rattle.outbox.specs.{Items.items_of, Items.taken_at, Laws.IsName, Laws.StandsAs, Lines.HallOf}
use Rattle.outbox.specs.{Cards.Says, Journals.read_back, Lines.with_end, States.state_of}
use Rattle.texts.specs.declared.answer.Answer.TheVariants as answer
use Rattle.texts.specs.declared.answer.Code.TheVariants as code
use Rattle.outbox.specs.declared.journal.JournalFault.TheVariants as fault
use Rattle.outbox.specs.declared.state.ItemState.TheVariants as state

abbrev pub entry : ℕ → List ℕ → Entry
entry id text = record { id = id; text = text }

-- hall 7, with two desks
abbrev pub seven : HallOf
seven = record {
  number = 7;
  addresses = codes "10.0.0.1:7001" ∷ codes "10.0.0.2:7001" ∷ [];
}

abbrev pub eight : HallOf
eight = record { number = 8; addresses = seven.addresses }

-- two items were taken, of which the second was answered; a third line was not written to its end
abbrev pub journal : List ℕ
journal =
    with_end (codes "hall 7 10.0.0.1:7001 10.0.0.2:7001")
    ++ with_end (codes "item 5 CLOSE 333 1") ++ with_end (codes "item 9223372036854775807 X")
    ++ with_end (codes "answered 9223372036854775807") ++ codes "item 6 CLOSE 22"

pub record WorkedJournal : Type 0 where
  pub reads : read_back seven 3 journal ≡ Ok (items_of
      ((5, taken_at (entry 5 (codes "CLOSE 333 1")) 3)
      ∷ (9223372036854775807, taken_at (entry 9223372036854775807 (codes "X")) 3) ∷ [])
      2 [] (9223372036854775807 ∷ []))
  pub other : read_back eight 3 journal ≡ Err fault.OtherHall
  pub empty : read_back seven 3 (codes "hall 7 10.0") ≡ Err fault.Empty
  pub earlier : read_back seven 3 (with_end (codes "done 5")) ≡ Err fault.Earlier
  -- an id that is 0, an item that is said again, and an answer to none
  pub zero : read_back seven 3
      (with_end (codes "hall 7 10.0.0.1:7001 10.0.0.2:7001") ++ with_end (codes "item 0 X"))
      ≡ Err (fault.Damaged 2)
  pub again : read_back seven 3
      (with_end (codes "hall 7 10.0.0.1:7001 10.0.0.2:7001") ++ with_end (codes "item 1 X")
      ++ with_end (codes "item 1 X")) ≡ Err (fault.Damaged 3)
  pub none : read_back seven 3
      (with_end (codes "hall 7 10.0.0.1:7001 10.0.0.2:7001") ++ with_end (codes "answered 1"))
      ≡ Err (fault.Damaged 2)

-- an edition is set, and then once more
abbrev pub log : List Entry
log = entry 5 (codes "EDITION 2") ∷ entry 6 (codes "EDITION 2") ∷ []

pub record WorkedStates : Type 0 where
  pub says : Says (entry 5 (codes "EDITION 2")) (SetEdition 2)
  pub stands : StandsAs log 0 (entry 5 (codes "EDITION 2")) answer.Done
  pub named : IsName seven
  pub waits : state_of log (entry 7 (codes "EDITION 2")) ≡ state.Waits
  pub saved : state_of log (entry 5 (codes "EDITION 2")) ≡ state.Saved 0
  pub refused : state_of log (entry 6 (codes "EDITION 2")) ≡ state.Refused 1 code.Already
  pub other : state_of log (entry 6 (codes "EDITION 3")) ≡ state.OtherText 1
