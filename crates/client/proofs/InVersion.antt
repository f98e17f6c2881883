-- The version of an answer.
use Rattle.std.proofs.Common.{◌≡◌, Bool, true, false, ◌&&◌}
use Rattle.std.specs.Prelude.{ℕ, ◌==◌}
use Rattle.wire.specs.{Numbers.IsFromThree, Ranges.IsBody}
use Rattle.wire.specs.declared.{frame.FrameBody.FrameBody, values.Version.Version}
use Rattle.client.specs.Answers.{fits, is_entries, is_standing}
use Rattle.client.specs.Standings.{AnswersFromThree, IsOfThree}
use Rattle.wire.specs.declared.frame.FrameBody.TheVariants as what

last_of : (a b c : Bool) → (a && b && c) ≡ true → c ≡ true
last_of true true c h = h
last_of true false c h = absurd (let k : false ≡ true = h in cc)
last_of false b c h = absurd (let k : false ≡ true = h in cc)

standing_in_three : (v : Version) (given : FrameBody) → is_standing given ≡ true → IsBody v given
    → IsFromThree v
standing_in_three v (what.Standing standing) h body = body.0
standing_in_three v _ h body = absurd (let k : false ≡ true = h in cc)

entries_in_three : (v : Version) (position : ℕ) (given : FrameBody)
    → is_entries position given ≡ true → IsBody v given → IsFromThree v
entries_in_three v position (what.Entries from len entries) h body = body.0
entries_in_three v position _ h body = absurd (let k : false ≡ true = h in cc)

asked_in_three : (v : Version) (asked : FrameBody) → IsOfThree asked → IsBody v asked
    → IsFromThree v
asked_in_three v what.Status three body = body
asked_in_three v (what.Log position) three body = body.0
asked_in_three v _ three body = absurd three

given_in_three : (v : Version) (asked given : FrameBody) → IsOfThree asked → fits asked given ≡ true
    → IsBody v given → IsFromThree v
given_in_three v what.Status given three h body = standing_in_three v given h body
given_in_three v (what.Log position) given three h body = entries_in_three v position given h body
given_in_three v _ given three h body = absurd three

pub from_three : AnswersFromThree
from_three asked given spelled came three h = (
  asked_in_three asked.version asked.what three spelled.body,
  given_in_three given.version asked.what given.what three
      (last_of (given.hall == asked.hall) (given.from == asked.to) (fits asked.what given.what) h)
      came.body,
)
