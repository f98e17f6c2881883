-- What a desk answers to the messages that are sent on the way.
use Rattle.std.proofs.Common.{◌≡◌, ℕ, zero, suc, ◌<◌, ◌+◌, max, true, false, ◌==◌, nat_lt, List, []}
use Rattle.std.proofs.Common.{◌∷◌, Option, Some, None, length, slice_get, take, drop, refl, ap, ◌∙◌}
use Rattle.std.proofs.{Common.arith, lemmas.Bool.Decides.nat_tests, lemmas.Option.slice_get_past}
use Rattle.acceptor.specs.declared.{ballot.Ballot.Ballot, entry.Entry.Entry}
use Rattle.acceptor.specs.{Ballots.is_same, Messages.message, Messages.has, Answers.reported}
use Rattle.acceptor.specs.declared.message.{Report.Report, Message.Message}
use Rattle.acceptor.specs.declared.message.Body.TheVariants.{Prepare, Promise, Accept, Accepted}
use Rattle.acceptor.specs.declared.message.Body.TheVariants.{Nack, Behind, Decided}
use Rattle.acceptor.specs.declared.stored.Change.TheVariants.{Promised, Voted}
use Rattle.proposer.specs.declared.{role.PromisingDesk.PromisingDesk, plan.Plan.Plan}
use Rattle.proposer.specs.declared.role.Role.TheVariants.{Idle, Gathering, Proposing}
use Rattle.proposer.specs.Plans.{append}
use Rattle.proposer.specs.Proposing.{was_heard, promises_heard, votes_heard, is_ballot_of}
use Rattle.learner.specs.{Desks.Desk, Desks.passing, Learning.told, Steps.on_body}
use Rattle.learner.specs.Order.{IsAtMost, IsBelow}
use Rattle.progress.proofs.Fits.{makes}

number_test : (k : ℕ) → (k == k) ≡ true
number_test k = grind (arith, nat_tests)

same_test : (b : Ballot) → is_same b b ≡ true
same_test b = grind (arith, nat_tests)

here_test : (m len : ℕ) → len ≡ m → (m == len) ≡ true
here_test m len h = grind (arith, nat_tests)

elsewhere_test : (m len : ℕ) → ¬ (len ≡ m) → (m == len) ≡ false
elsewhere_test m len h = grind (arith, nat_tests)

-- a Promise of the ballot, with the vote at this position
abbrev pub promises : Desk → ℕ → ℕ → Ballot → ℕ → Plan
promises x k d b m =
    makes x.seen None (Some (Promised b))
    (message k d (Promise b m (reported x.stored.vote m)) ∷ [])

-- a Nack with the ballot that was promised
abbrev pub refuses : Desk → ℕ → ℕ → Ballot → ℕ → Plan
refuses x k d b m = makes x.seen None None (message k d (Nack b m x.stored.promised) ∷ [])

-- a vote
abbrev pub votes_for : Desk → ℕ → ℕ → Ballot → ℕ → Entry → Plan
votes_for x k d b m e =
    makes x.seen None (Some (Voted (record { pos = m; ballot = b; entry = e })))
    (message k d (Accepted b m) ∷ [])

-- the log's length is told
abbrev pub asks_more : Desk → ℕ → ℕ → Plan
asks_more x k d = makes x.seen None None (message k d (Behind (length x.log)) ∷ [])

-- an entry is told
abbrev pub tells : Desk → ℕ → ℕ → ℕ → Entry → Plan
tells x k d m e = makes x.seen None None (message k d (Decided m e) ∷ [])

-- an entry is taken, and the next asked for
abbrev pub takes_in : Desk → ℕ → ℕ → Entry → Plan
takes_in x k d e = append (passing x) e Idle (message k d (Behind (length x.log + 1)) ∷ [])

-- desk k at a Prepare of a ballot above its promise, at its log's length
pub promised_at : (n d k : ℕ) (x : Desk) (b : Ballot) (m : ℕ) → length x.log ≡ m
    → IsBelow x.stored.promised b → on_body n k x d (Prepare b m) ≡ promises x k d b m
promised_at n d k x b m same low = cc (here_test m (length x.log) same)

-- of one that is not above it
pub refused_at : (n d k : ℕ) (x : Desk) (b : Ballot) (m : ℕ) → length x.log ≡ m
    → IsAtMost b x.stored.promised → on_body n k x d (Prepare b m) ≡ refuses x k d b m
refused_at n d k x b m same high = cc (here_test m (length x.log) same)

-- at a position past its log's end
pub prepare_ahead : (n d k : ℕ) (x : Desk) (b : Ballot) (m : ℕ) → length x.log < m
    → on_body n k x d (Prepare b m) ≡ asks_more x k d
prepare_ahead n d k x b m h =
    cc (
      elsewhere_test m (length x.log) (λ e. omega (arith, e, h)),
      slice_get_past x.log m
          (omega (arith, h)),
    )

get_some : (m : ℕ) (xs : List Entry) → m < length xs → (y : Entry) × (slice_get xs m ≡ Some y)
get_some m [] h = absurd (omega (arith, h))
get_some zero (x ∷ xs) h = (x, refl)
get_some (suc m) (x ∷ xs) h = get_some m xs (omega (arith, h))

-- at a position that its log has
pub prepare_past : (n d k : ℕ) (x : Desk) (b : Ballot) (m : ℕ) → m < length x.log
    → (y : Entry) × (on_body n k x d (Prepare b m) ≡ tells x k d m y)
prepare_past n d k x b m h =
    let s = get_some m x.log h in
    (s.0, cc (elsewhere_test m (length x.log) (λ e. omega (arith, e, h))))

-- desk k at an Accept of a ballot that is not below its promise, at its log's length
pub voted_at : (n d k : ℕ) (x : Desk) (b : Ballot) (m : ℕ) (e : Entry) → length x.log ≡ m
    → IsAtMost x.stored.promised b → on_body n k x d (Accept b m e) ≡ votes_for x k d b m e
voted_at n d k x b m e same low = cc (here_test m (length x.log) same)

-- of one below it
pub outvoted_at : (n d k : ℕ) (x : Desk) (b : Ballot) (m : ℕ) (e : Entry) → length x.log ≡ m
    → IsBelow b x.stored.promised → on_body n k x d (Accept b m e) ≡ refuses x k d b m
outvoted_at n d k x b m e same high = cc (here_test m (length x.log) same)

pub accept_ahead : (n d k : ℕ) (x : Desk) (b : Ballot) (m : ℕ) (e : Entry) → length x.log < m
    → on_body n k x d (Accept b m e) ≡ asks_more x k d
accept_ahead n d k x b m e h =
    cc (
      elsewhere_test m (length x.log) (λ s. omega (arith, s, h)),
      slice_get_past x.log m
          (omega (arith, h)),
    )

pub accept_past : (n d k : ℕ) (x : Desk) (b : Ballot) (m : ℕ) (e : Entry) → m < length x.log
    → (y : Entry) × (on_body n k x d (Accept b m e) ≡ tells x k d m y)
accept_past n d k x b m e h =
    let s = get_some m x.log h in
    (s.0, cc (elsewhere_test m (length x.log) (λ c. omega (arith, c, h))))

-- an entry for the next position is taken
pub taken_at : (n d k : ℕ) (x : Desk) (m : ℕ) (e : Entry) → length x.log ≡ m
    → on_body n k x d (Decided m e) ≡ takes_in x k d e
taken_at n d k x m e same = cc (here_test m (length x.log) same)

pub drop_some : (m : ℕ) (xs : List Entry) → m < length xs
    → (y : Entry) × (ys : List Entry) × (drop m xs ≡ y ∷ ys)
drop_some m [] h = absurd (omega (arith, h))
drop_some zero (x ∷ xs) h = (x, xs, refl)
drop_some (suc m) (x ∷ xs) h = drop_some m xs (omega (arith, h))

-- a desk that is behind is told its next entry, and those behind it
pub told_at : (n d k : ℕ) (x : Desk) (m : ℕ) → m < length x.log
    → (y : Entry) × (more : List Message)
    × (on_body n k x d (Behind m) ≡ makes x.seen None None (message k d (Decided m y) ∷ more))
told_at n d k x m h =
    let s = drop_some m x.log h in
    let t : nat_lt (length x.log) m ≡ false = grind (arith, nat_tests) in
    (s.0, told k d (suc m) (take 15 s.1), cc)

-- desk d at a Promise that it waits for
pub promise_heard : (n d k : ℕ) (x : Desk) (b : Ballot) (m : ℕ) (heard : List PromisingDesk)
    (v : Option Report) → x.role ≡ Gathering b m heard → was_heard heard k ≡ false
    → on_body n d x k (Promise b m v)
    ≡ promises_heard n d (passing x) b m (record { desk = k; vote = v } ∷ heard)
promise_heard n d k x b m heard v role new =
    let more : Plan = promises_heard n d (passing x) b m (record { desk = k; vote = v } ∷ heard) in
    cc (same_test b, number_test m)

-- desk d at an Accepted that it waits for
pub vote_heard : (n d k : ℕ) (x : Desk) (b : Ballot) (m : ℕ) (e : Entry) (heard : List ℕ)
    → x.role ≡ Proposing b m e heard → has heard k ≡ false
    → on_body n d x k (Accepted b m) ≡ votes_heard n d (passing x) b m e (k ∷ heard)
vote_heard n d k x b m e heard role new =
    let more : Plan = votes_heard n d (passing x) b m e (k ∷ heard) in
    cc (same_test b, number_test m)

-- desk d gives its ballot up, and keeps that number in mind
abbrev pub gives_up : Desk → ℕ → Plan
gives_up x number = makes (max x.seen number) (Some Idle) None []

pub nack_heard : (n d k : ℕ) (x : Desk) (b : Ballot) (m : ℕ) (q : Ballot)
    → is_ballot_of x.role b ≡ true → IsBelow b q → on_body n d x k (Nack b m q)
    ≡ gives_up x q.number
nack_heard n d k x b m q mine high = cc

pub is_own_gathering : (x : Desk) (b : Ballot) (m : ℕ) (heard : List PromisingDesk)
    → x.role ≡ Gathering b m heard → is_ballot_of x.role b ≡ true
is_own_gathering x b m heard h = ap (λ r. is_ballot_of r b) h ∙ same_test b

pub is_own_proposing : (x : Desk) (b : Ballot) (m : ℕ) (e : Entry) (heard : List ℕ)
    → x.role ≡ Proposing b m e heard → is_ballot_of x.role b ≡ true
is_own_proposing x b m e heard h = ap (λ r. is_ballot_of r b) h ∙ same_test b
