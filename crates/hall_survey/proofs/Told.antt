-- What is told of desks, one after the other.
use Rattle.std.proofs.Common.{◌≤◌, ℕ, List, [], ◌∷◌, ◌++◌, drop, length, subst, sym}
use Rattle.std.proofs.lemmas.List.{append_assoc, append-nil, drop_all}
use Rattle.standings.specs.declared.polled.PolledDesk.{PolledDesk}
use Rattle.hall_survey.specs.declared.asked.AskedDesk.{AskedDesk}
use Rattle.hall_survey.specs.Told.{AreTold, Begins, IsTold}

-- nothing is told yet
pub begins : (asked : List AskedDesk) → Begins asked asked []
begins asked more told = told

-- what is told of one more
pub goes_on : (asked others : List AskedDesk) (one : AskedDesk) (before : List PolledDesk)
    (told : PolledDesk) → Begins asked (one ∷ others) before → IsTold one told
    → Begins asked others (before ++ told ∷ [])
goes_on asked others one before told begun is more rest =
    subst (AreTold asked) (sym (append_assoc before (told ∷ []) more))
    (begun (told ∷ more) (is, rest))

-- something is told of each
pub ends : (asked : List AskedDesk) (told : List PolledDesk) → Begins asked [] told
    → AreTold asked told
ends asked told begun = subst (AreTold asked) (append-nil told) (begun [] tt)

-- the same where all of them were gone through
pub ends_at : (asked : List AskedDesk) (place : ℕ) (told : List PolledDesk) → length asked ≤ place
    → Begins asked (drop place asked) told → AreTold asked told
ends_at asked place told all begun =
    ends asked told
    (subst (λ (others : List AskedDesk). Begins asked others told) (drop_all place asked all) begun)
