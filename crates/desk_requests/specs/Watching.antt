-- Asking the desks of a hall how they are, again and again (the project's own).
use Rattle.std.specs.Prelude.{◌≡◌, [], ◌∷◌, ℕ, List, Option}
use Rattle.std.specs.Io.KnownBytes.{Appends}
use Rattle.batch.specs.Dialing.{Dialed}
use Rattle.standings.specs.Reports.{report}
use Rattle.standings.specs.declared.{forms.Form.Form, polled.PolledDesk.PolledDesk}
use Rattle.desk_requests.specs.Polling.{FailsReport, Outside, PollsAll}
use Rattle.desk_requests.specs.declared.{fault.DeskFault.DeskFault, polling.Inquiry.Inquiry}

-- all desks were asked this many times, one time after the other, each time with these answers, and
-- the report on them was written before they were asked again
abbrev pub Watches : Form → Inquiry → List (List PolledDesk) → (from to : Option (List Dialed))
    → (old new : Option (List ℕ)) → Type 0
Watches form q [] from to old new = (from ≡ to) × (old ≡ new)
Watches form q (polled ∷ times) from to old new =
    (then : Option (List Dialed)) × (mid : Option (List ℕ)) × PollsAll q polled from then
    × Appends old mid (report form q.hall polled) × Watches form q times then to mid new

abbrev pub HasWatched : Form → Inquiry → Outside → Type 0
HasWatched form q o =
    (times : List (List PolledDesk)) × Watches form q times o.dialed o.dialed_then o.old o.new

-- this many reports were written whole, and the next one failed
pub record FailsWatch (f : DeskFault) (form : Form) (q : Inquiry) (o : Outside) : Type 0 where
  pub times : List (List PolledDesk)
  pub dialed : Option (List Dialed)
  pub written : Option (List ℕ)
  pub watched : Watches form q times o.dialed dialed o.old written
  pub fails : FailsReport f form q (record {
    dialed = dialed;
    dialed_then = o.dialed_then;
    old = written;
    new = o.new;
  })
