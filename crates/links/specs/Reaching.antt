-- How soon a desk that comes back is reached (the project's own).
use Rattle.std.specs.Prelude.{◌≡◌, ℕ, ◌+◌, ◌≤◌, true}
use Rattle.links.specs.declared.stages.LinkStage.TheVariants as stage
use Rattle.links.specs.declared.stages.LinkAction.TheVariants as wish
use Rattle.links.specs.Links.{LinkState, has_some, wish_of}
use Rattle.links.specs.Histories.{History, Leads}

-- where a frame waits, the wish is to open a connection where there is none, in a pause a second
-- after the failure at the latest; and one that is being opened is given up a second later
pub record TriesAgain (s : LinkState) (now : ℕ) : Type 0 where
  pub closed : s.stage ≡ stage.Closed → wish_of s now ≡ wish.Open
  pub paused : (since millis : ℕ) → s.stage ≡ stage.Paused since millis → since + 1000 ≤ now
      → wish_of s now ≡ wish.Open
  pub opening : (since : ℕ) → s.stage ≡ stage.Opening since → since + 1000 ≤ now
      → wish_of s now ≡ wish.GiveUp

-- of every history of a link
abbrev pub LinksTryAgain : Type 0
LinksTryAgain =
    (h : History) (s : LinkState) (now : ℕ) → Leads h s → has_some s.waiting ≡ true
    → TriesAgain s now
