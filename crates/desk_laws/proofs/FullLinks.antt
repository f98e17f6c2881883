-- Links that have something to send, and full ones.
use Rattle.std.proofs.Common.{◌≡◌, ◌≢◌, refl, ap, ℕ, zero, suc, Bool, true, false, if◌then◌else◌}
use Rattle.std.proofs.Common.{List, [], ◌∷◌, arith, drop, nat_lt, nat_le}
use Rattle.std.proofs.lemmas.Bool.Decides.{nat_tests}
use Rattle.links.specs.Links.{LinkState, first_of, has_room, has_some, wish_at}
use Rattle.links.specs.declared.stages.LinkStage.{LinkStage, TheVariants.Open}
use Rattle.desk_laws.specs.FullLinks.{WorksFullLinks}
use Rattle.links.specs.declared.stages.LinkAction.TheVariants as wish

nothing : (begun : ℕ) → drop begun (first_of []) ≡ []
nothing zero = refl
nothing (suc n) = refl

-- what is to be sent in a stage
abbrev to_send : LinkStage → ℕ → List (List ℕ) → List ℕ
to_send stage begun waiting = if has_room stage then drop begun (first_of waiting) else []

open_writes : (frames quiet begun now : ℕ) (waiting : List (List ℕ)) (room : Bool)
    → nat_lt frames 63 ≡ room
    → (let sent : List ℕ = if room then drop begun (first_of waiting) else [] in sent) ≢ []
    → wish_at (Open frames quiet) (has_some waiting) now ≡ wish.Write
open_writes frames quiet begun now waiting false is some = absurd (some refl)
open_writes frames quiet begun now [] true is some = absurd (some (nothing begun))
open_writes frames quiet begun now (f ∷ fs) true is some =
    let more : nat_le 63 frames ≡ false = grind (arith, nat_tests, is) in
    ap (λ (t : Bool). if t then wish.Close else wish.Write) more

writes_at : (stage : LinkStage) (begun now : ℕ) (waiting : List (List ℕ))
    → to_send stage begun waiting ≢ [] → wish_at stage (has_some waiting) now ≡ wish.Write
writes_at (Open frames quiet) begun now waiting some =
    open_writes frames quiet begun now waiting (nat_lt frames 63) refl some
writes_at _ begun now waiting some = absurd (some refl)

pub works : WorksFullLinks
works = record {
  first = λ frame new h. ap (λ (s : LinkState). s.waiting) h.1;
  second = λ frame new h. ap (λ (s : LinkState). s.waiting) h.1;
  writes = λ s now some. writes_at s.stage s.begun now s.waiting some;
}
