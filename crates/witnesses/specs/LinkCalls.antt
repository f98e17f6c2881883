-- Calls of a link, and what was said of its desk (the project's own).
use Rattle.std.specs.Prelude.{◌≡◌, ℕ, true, List, [], ◌∷◌, None, Some}
use Rattle.links.specs.Histories.{Began, Failed, History, Leads, Opened, Push, Sent, Start, Then}
use Rattle.links.specs.Histories.{connections, failures, pushed, written}
use Rattle.links.specs.{Links.LinkState, Links.has_some, Outages.Telling}
use Rattle.links.specs.Tellings.{Goes, LeadsTo, Line, Silent, Tale, lines_of}
use Rattle.links.specs.declared.stages.{PushOutcome.TheVariants.Waits, LinkStage.TheVariants.Paused}
use Rattle.links.specs.Tellings as Tellings
use Rattle.links.specs.declared.notices.Notice.TheVariants as notice
use Rattle.links.specs.declared.notices.Outage.TheVariants as outage

abbrev pub one : List ℕ
one = 1 ∷ 2 ∷ 3 ∷ []

abbrev pub two : List ℕ
two = 4 ∷ 5 ∷ []

abbrev pub three : List ℕ
three = 6 ∷ []

-- two frames are pushed, and a connection is opened; the first goes whole, and a byte of the second
abbrev pub sending : History
sending =
    Then (Then (Then (Then (Then (Then Start (Push one Waits)) (Push two Waits)) (Began 10))
    (Opened 20)) (Sent 30 one)) (Sent 40 (4 ∷ []))

-- the connection fails, and a third is pushed
abbrev pub calls : History
calls = Then (Then sending (Failed 50)) (Push three Waits)

abbrev pub link_after : LinkState
link_after = record {
  waiting = three ∷ [];
  begun = 0;
  stage = Paused 50 100;
  pause = 200;
  down = Some 50;
}

-- the desk can't be reached, and is three seconds later
abbrev pub tale : Tale
tale =
    Goes (Goes (Goes Silent (Tellings.Failed 0 (Some notice.Unreachable)))
    (Tellings.Failed 500 None)) (Tellings.Reached 3000 (Some (notice.Reached 3)))

abbrev pub told_after : Telling
told_after = record { last = Some 3000; outage = outage.Reachable }

abbrev pub line : ℕ → Rattle.links.specs.declared.notices.Notice.Notice → Line
line time what = record { time = time; notice = what }

pub record WorksLink : Type 0 where
  pub leads : Leads calls link_after
  pub waits : has_some link_after.waiting ≡ true
  pub pushes : pushed calls ≡ one ∷ two ∷ three ∷ []
  pub opened : connections calls ≡ 1
  pub went : written 1 calls ≡ 1 ∷ 2 ∷ 3 ∷ 4 ∷ []
  pub failed : failures calls ≡ 1
  pub tells : LeadsTo tale told_after
  pub lines : lines_of tale ≡ line 3000 (notice.Reached 3) ∷ line 0 notice.Unreachable ∷ []
