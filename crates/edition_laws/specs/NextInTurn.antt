-- Who takes the place of one who withdraws, said of all commands since the round was opened (the
-- project's own).
use Rattle.std.specs.Prelude.{◌≡◌, ℕ, true, List, [], ◌∷◌, ◌++◌, nat_eq, option_to_list}
use Rattle.std.specs.List.{IsDistinct}
use Rattle.formats.specs.declared.events.Event.{Event}
use Rattle.texts.specs.declared.command.Command.{Command, TheVariants.Withdraw}
use Rattle.texts.specs.declared.command.RoundId.{RoundId}
use Rattle.advancement.specs.Waiting.{next_of}
use Rattle.commands.specs.Accepted.{entering, is_of}

-- whom a command takes in, where it is a withdrawal
abbrev pub taken_by : Event → ℕ → List ℕ → List Command → Command → List ℕ
taken_by e r waiting earlier (Withdraw id n) =
    option_to_list (entering e r waiting earlier (Withdraw id n))
taken_by e r waiting earlier _ = []

-- those whom the withdrawals among these commands take in; `earlier` are the commands between the
-- opening and these
abbrev pub taken_in : Event → ℕ → List ℕ → List Command → List Command → List ℕ
taken_in e r waiting earlier [] = []
taken_in e r waiting earlier (c ∷ cs) =
    taken_by e r waiting earlier c ++ taken_in e r waiting (earlier ++ c ∷ []) cs

-- of those who wait, of whom none is named twice, the first takes the place whom no withdrawal
-- since the opening has taken in
abbrev pub TakesWhoIsNext : Type 0
TakesWhoIsNext =
    (e : Event) (r : ℕ) (id : RoundId) (n : ℕ) (waiting : List ℕ) (since : List Command)
    → is_of e r id ≡ true → IsDistinct nat_eq waiting → entering e r waiting since (Withdraw id n)
    ≡ next_of waiting (taken_in e r waiting [] since)
