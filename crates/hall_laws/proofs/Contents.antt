-- What is in a desk and in what it hands out, after a step.
use Rattle.learner.{proofs.Cases.submit_cases, specs.Desks.Desk, specs.Desks.passing}
use Rattle.std.proofs.Common.{◌≡◌, ℕ, Bool, true, false, if◌then◌else◌, length, Option, None, Some}
use Rattle.std.proofs.Common.{Result, Ok, Err, arith, ◌⊎◌, inl, inr, subst, sym}
use Rattle.acceptor.specs.Ballots.{no_ballot}
use Rattle.acceptor.specs.declared.{ballot.Ballot.Ballot, entry.Entry.Entry, stored.Change.Change}
use Rattle.acceptor.specs.declared.message.Body.{Body, TheVariants.Nack, TheVariants.Behind}
use Rattle.acceptor.specs.declared.stored.Change.TheVariants.{Promised, Voted, Tried, Appended}
use Rattle.learner.specs.Contents.{DeskHolds, MessagesHold, BodyHolds}
use Rattle.learner.specs.Steps.{on_body, Done, IsDesk, done, idle, is_heeded, planned, step}
use Rattle.proposer.specs.declared.{plan.Plan.Plan, fault.Refusal.Refusal}
use Rattle.proposer.specs.Proposing.{start, tick}
use Rattle.learner.specs.{Ranges.IsReal, declared.event.DeskEvent.DeskEvent}
use Rattle.learner.specs.declared.event.DeskEvent.TheVariants.{Submit, Start, Tick, Deliver}
use Rattle.learner.proofs.Contents.{Fits, ResultFits, ResultHolds, adopt_holds, body_holds}
use Rattle.learner.proofs.Contents.{push_holds, start_holds, tick_holds}
use Rattle.hall_laws.proofs.Plans.{AreLow, ChangeIsLow, IsLow, NumbersAreLow, ResultIs, ShowsLow}
use Rattle.hall_laws.proofs.Plans.{adopt_low, body_is, started, ticked}

-- a ballot that a desk of the hall can have made, in 32 bits
abbrev pub IsMade : ℕ → Ballot → Type 0
IsMade n b = IsReal n b × IsLow b.number

-- its entries are such, and its ballots
pub record DeskFits (P : Entry → Type 0) (n : ℕ) (x : Desk) : Type 0 where
  pub contents : DeskHolds P (IsMade n) x
  pub numbers : NumbersAreLow x

abbrev pub EventHolds : (Entry → Type 0) → ℕ → DeskEvent → Type 0
EventHolds P n (Submit e) = P e
EventHolds P n Start = Unit {0}
EventHolds P n Tick = Unit {0}
EventHolds P n (Deliver m) = BodyHolds P (IsMade n) m.body

abbrev pub DoneHolds : (Entry → Type 0) → ℕ → Result Done Refusal → Type 0
DoneHolds P n (Ok r) = DeskFits P n r.desk × MessagesHold P (IsMade n) r.messages
DoneHolds P n (Err why) = Unit {0}

-- a ballot that a desk of the hall makes is such
makes_it : (n d : ℕ) (x : Desk) (shown : Body) (r : Result Plan Refusal) → IsDesk n d
    → AreLow x shown → ResultIs d x shown r → ResultFits (IsMade n) d r
makes_it n d x shown (Err why) ours low is = tt
makes_it n d x shown (Ok p) ours low is = go p.change (is.low low).change
  where
    go : (c : Option Change) → ChangeIsLow c → Fits (IsMade n) d c
    go (Some (Tried r)) k = λ one. ((one, ours), k)
    go (Some (Promised b)) k = tt
    go (Some (Voted v)) k = tt
    go (Some (Appended e)) k = tt
    go None k = tt

result_holds : (P : Entry → Type 0) (n d : ℕ) (x : Desk) (shown : Body) (r : Result Plan Refusal)
    → DeskFits P n x → AreLow x shown → ResultIs d x shown r → ResultHolds P (IsMade n) r
    → DoneHolds P n (planned x r)
result_holds P n d x shown (Err why) h low is k = tt
result_holds P n d x shown (Ok p) h low is k = (
  record {
    contents = adopt_holds P (IsMade n) x p h.contents k;
    numbers = adopt_low x p h.numbers (is.low low);
  },
  k.messages,
)

submit_holds : (P : Entry → Type 0) (n d : ℕ) (x : Desk) (e : Entry) → DeskFits P n x
    → P e → DoneHolds P n (step n d x (Submit e))
submit_holds P n d x e h k =
    submit_cases (DoneHolds P n) n d x e tt tt (
      record {
        contents =
            record {
              promised = h.contents.promised;
              vote = h.contents.vote;
              log = h.contents.log;
              role = h.contents.role;
              queue = push_holds P x.queue e h.contents.queue k;
            };
        numbers = record { tried = h.numbers.tried; seen = h.numbers.seen };
      },
      tt,
    )

promised_low : (n : ℕ) (b : Ballot) → (b ≡ no_ballot) ⊎ IsMade n b → IsLow b.number
promised_low n b (inl none) = subst (λ (c : Ballot). IsLow c.number) (sym none) (omega arith)
promised_low n b (inr made) = made.1

shows_low : (P : Entry → Type 0) (n : ℕ) (body : Body) → BodyHolds P (IsMade n) body → ShowsLow body
shows_low P n (Nack b pos promised) h = let it = h.1 in it.1
shows_low P n _ h = tt

-- the numbers that the desk knows of, and those that a message shows
are_low : (P : Entry → Type 0) (n : ℕ) (x : Desk) (shown : Body) → DeskFits P n x → ShowsLow shown
    → AreLow x shown
are_low P n x shown h shows = record {
  numbers = h.numbers;
  promised = promised_low n x.stored.promised h.contents.promised;
  shows = shows;
}

pub step_holds : (P : Entry → Type 0) (n d : ℕ) (x : Desk) (event : DeskEvent) → IsDesk n d
    → DeskFits P n x → EventHolds P n event → DoneHolds P n (step n d x event)
step_holds P n d x (Submit e) ours h k = submit_holds P n d x e h k
step_holds P n d x Start ours h k =
    let r = start n d x.stored (length x.log) (passing x) in
    let low = are_low P n x (Behind 0) h tt in
    let is = started n d x (Behind 0) in
    result_holds P n d x (Behind 0) r h low is
    (start_holds P (IsMade n) n d x h.contents (makes_it n d x (Behind 0) r ours low is))
step_holds P n d x Tick ours h k =
    let r = tick n d x.stored (length x.log) (passing x) in
    let low = are_low P n x (Behind 0) h tt in
    let is = ticked n d x (Behind 0) in
    result_holds P n d x (Behind 0) r h low is
    (tick_holds P (IsMade n) n d x h.contents (makes_it n d x (Behind 0) r ours low is))
step_holds P n d x (Deliver m) ours h k = go (is_heeded n d m)
  where
    go : (t : Bool)
        → DoneHolds P n (if t then Ok (done x (on_body n d x m.from m.body)) else Ok (idle x))
    go true =
        result_holds P n d x m.body (Ok (on_body n d x m.from m.body)) h
        (are_low P n x m.body h (shows_low P n m.body k)) (body_is n d x m.from m.body)
        (body_holds P (IsMade n) (λ b r. let real = r.0 in real.0) n d x m.from m.body h.contents k)
    go false = (h, tt)
