-- What comes on a connection in order shows no desk of a hall that another one differs.
use Rattle.std.proofs.Common.{◌≡◌, ◌≤◌, inl, inr, refl, sym, ap, subst, ◌∙◌, ℕ, zero, suc, ◌+◌, ◌-◌}
use Rattle.std.proofs.Common.{Bool, true, false, ◌&&◌, ◌==◌, if◌then◌else◌, cond, nat_lt, List, []}
use Rattle.std.proofs.Common.{◌∷◌, length, take, get_or, set, Some, None, Result, Ok, Err, arith}
use Rattle.std.{proofs.lemmas.Bool.Decides.nat_tests, specs.List.AllByRecursion}
use Rattle.acceptor.specs.declared.{entry.Entry.Entry, message.Message.Message}
use Rattle.learner.{proofs.Runs.desk_from_test, specs.declared.event.DeskEvent.DeskEvent}
use Rattle.learner.specs.Steps.{IsDesk, is_desk, is_heeded}
use Rattle.learner.specs.Worlds.{World, new_world}
use Rattle.learner.specs.declared.event.DeskEvent.TheVariants.{Submit, Start, Tick, Deliver}
use Rattle.replica.specs.{Handles.Handles, Nodes.NodeValue}
use Rattle.replica.specs.Lengths.{length_told, nothing_told, raised, told_after}
use Rattle.replica.specs.declared.roles.fault.NodeFault.{NodeFault}
use Rattle.serving.specs.{Asking.is_ours, Asking.ours, Asking.request, Making.calls_of}
use Rattle.serving.specs.{Serving.Act, Differing.what_differs, Making.Call, Making.Lead}
use Rattle.serving.specs.Differing.{hears, is_all, known_after, length_said, other_from, shorter}
use Rattle.serving.specs.declared.{permission.Permission.Permission, request.Request.Request}
use Rattle.store.specs.declared.{home.Home.Home, keeper.Keeper.Ghosts}
use Rattle.wire.specs.Ranges.{IsBody, IsCount, IsFrame}
use Rattle.wire.specs.declared.frame.{Frame.Frame, FrameBody.FrameBody}
use Rattle.wire.specs.declared.standing.Difference.TheVariants.{Shorter}
use Rattle.wire.specs.declared.values.Version.{Version, TheVariants.One}
use Rattle.hall_laws.specs.Arriving.{decided_each, delivers}
use Rattle.hall_laws.specs.Differing.{HallLengthsGrow, HallNeverDiffers, HallRunsAgree, IsBrought}
use Rattle.hall_laws.specs.Differing.{IsGiven, IsHeardIn, WasHeard, WereSentInOrder, known_behind}
use Rattle.hall_laws.specs.HallRuns.{AreSteps, CutAt, Hall, HallEvent, HallGoes, HallStep, OnlyAt}
use Rattle.hall_laws.specs.HallRuns.{OpenedAt, SettledAt, TickedAt, TurnAt, acts_of, desk_of}
use Rattle.hall_laws.specs.HallRuns.{hall_after, hall_log, home_at}
use Rattle.hall_laws.specs.{OwnMessages.WereSentTo, Stops.CallsAreHappenings, Stops.real_run}
use Rattle.hall_laws.proofs.{HallRuns.first_matches, HallNodes.each_of}
use Rattle.hall_laws.proofs.HallSteps.{Matches, WorksAt, step_comes, tick_works, turn_works}
use Rattle.acceptor.specs.declared.message.Body.TheVariants as body
use Rattle.wire.specs.declared.frame.FrameBody.TheVariants as what

-- ---- tests

first_of_both : (a b : Bool) → (a && b) ≡ true → a ≡ true
first_of_both true b h = refl
first_of_both false b h = absurd cc

second_of_both : (a b : Bool) → (a && b) ≡ true → b ≡ true
second_of_both true b h = h
second_of_both false b h = absurd cc

-- ---- the lengths that are known

-- of the log of desk p no more than this is known
abbrev Bounded : ℕ → ℕ → List ℕ → Type 0
Bounded p top known = get_or known (p - 1) 0 ≤ top

set_bounded : (xs : List ℕ) (i j v top : ℕ) → get_or xs j 0 ≤ top → (i ≡ j → v ≤ top)
    → get_or (set xs i v) j 0 ≤ top
set_bounded [] i j v top h k = h
set_bounded (x ∷ xs) zero zero v top h k = k refl
set_bounded (x ∷ xs) zero (suc j) v top h k = h
set_bounded (x ∷ xs) (suc i) zero v top h k = h
set_bounded (x ∷ xs) (suc i) (suc j) v top h k =
    set_bounded xs i j v top h (λ same. k (ap suc same))

raised_bounded : (p q len top : ℕ) (known : List ℕ) → 1 ≤ p → 1 ≤ q → Bounded p top known
    → (q ≡ p → len ≤ top) → Bounded p top (raised q len known)
raised_bounded p q len top known some other h k =
    set_bounded _ _ _ _ _ h (λ same. let told : len ≤ top = k (omega arith) in let knew : get_or
    known (q - 1) 0 ≤ top = subst (λ (i : ℕ). get_or known i 0 ≤ top) (sym same) h in omega arith)

nothing_bounded : (p top : ℕ) → Bounded p top nothing_told
nothing_bounded p top = go (p - 1)
  where
    go : (j : ℕ) → get_or nothing_told j 0 ≤ top
    go zero = omega arith
    go (suc zero) = omega arith
    go (suc (suc zero)) = omega arith
    go (suc (suc (suc zero))) = omega arith
    go (suc (suc (suc (suc zero)))) = omega arith
    go (suc (suc (suc (suc (suc j))))) = omega arith

-- ---- what a node heard

-- no message of desk p among these reports a longer log
abbrev HeardAtMost : ℕ → ℕ → List Call → Type 0
HeardAtMost p top calls = (m : Message) → IsHeardIn m calls → m.from ≡ p → length_told m.body ≤ top

event_bounded : (home : Home) (event : DeskEvent) (answer : Result (List Message) NodeFault)
    (told : List ℕ) (p top : ℕ) → 1 ≤ p → Bounded p top told
    → HeardAtMost p top (record { event = event; answer = answer } ∷ [])
    → Bounded p top (told_after home event answer told)
event_bounded home event (Err why) told p top some h heard = h
event_bounded home (Submit e) (Ok ms) told p top some h heard = h
event_bounded home Start (Ok ms) told p top some h heard = h
event_bounded home Tick (Ok ms) told p top some h heard = h
event_bounded home (Deliver m) (Ok ms) told p top some h heard =
    go (is_heeded home.desks home.desk m) refl
  where
    go : (t : Bool) → is_heeded home.desks home.desk m ≡ t
        → Bounded p top (if t then raised m.from (length_told m.body) told else told)
    go false is = h
    go true is =
        let theirs : IsDesk home.desks m.from =
        desk_from_test _ _ (second_of_both _ _ (first_of_both _ _ is)) in
        raised_bounded p _ _ _ _ some theirs.0 h (heard m (inl (refl, refl)))

calls_bounded : {K : Type 0} (k : Ghosts K) (p top : ℕ) (calls : List Call) (x y : NodeValue K)
    → 1 ≤ p → Lead (Handles k) x calls y → Bounded p top x.told → HeardAtMost p top calls
    → Bounded p top y.told
calls_bounded {K} k p top [] x y some lead h heard =
    subst (λ (z : NodeValue K). Bounded p top z.told) lead h
calls_bounded k p top (c ∷ cs) x y some lead h heard =
    calls_bounded k p top cs lead.0 y some lead.2
    (subst (λ (told : List ℕ). Bounded p top told) (sym lead.1.told)
    (event_bounded (k.home_of x.keeper) c.event c.answer x.told p top some h
    (λ m one. heard m (first_one m one)))) (λ m one. heard m (inr one))
  where
    first_one : (m : Message) → IsHeardIn m (c ∷ []) → IsHeardIn m (c ∷ cs)
    first_one m (inl now) = inl now
    first_one m (inr none) = absurd none

-- ---- in a hall

-- what desk d heard of desk p
abbrev ToldAtMost : {K : Type 0} → ℕ → ℕ → ℕ → Hall K → Type 0
ToldAtMost d p top h = Bounded p top (h.desks d).node.told

-- where only desk e has changed
at_desk_or_not : {K : Type 0} (d e p top : ℕ) (acts : List Act) (h g : Hall K)
    → OnlyAt e acts h g → ToldAtMost d p top h → (e ≡ d → ToldAtMost e p top g)
    → ToldAtMost d p top g
at_desk_or_not d e p top acts h g only told here =
    each_of e h.desks g.desks only.others (λ j x. j ≡ d → Bounded p top x.node.told) here d
    (λ other same. told) refl

-- the calls of a desk
called_bounded : {K : Type 0} (k : Ghosts K) (n d p top : ℕ) (event : HallEvent) (h g : Hall K)
    → 1 ≤ p → WorksAt k n event h g → ToldAtMost d p top h
    → (desk_of event ≡ d → HeardAtMost p top (calls_of (acts_of event))) → ToldAtMost d p top g
called_bounded k n d p top event h g some does told heard =
    let e = desk_of event in
    at_desk_or_not d e p top (acts_of event) h g does.only told (λ same.
    calls_bounded k p top (calls_of (acts_of event)) (h.desks e).node (g.desks e).node some
    does.lead (subst (λ (j : ℕ). ToldAtMost j p top h) (sym same) told) (heard same))

step_bounded : {K : Type 0} (k : Ghosts K) (n d p top : ℕ) (event : HallEvent) (h g : Hall K)
    (w : World) → 1 ≤ p → Matches k n h w → HallGoes k n event h g → ToldAtMost d p top h
    → (desk_of event ≡ d → HeardAtMost p top (calls_of (acts_of event))) → ToldAtMost d p top g
step_bounded k n d p top (TurnAt e t acts) h g w some m step told heard =
    called_bounded k n d p top (TurnAt e t acts) h g some
    (turn_works k n e t acts h g (m.talks e step.ours) step) told heard
step_bounded k n d p top (TickedAt e one acts) h g w some m step told heard =
    called_bounded k n d p top (TickedAt e one acts) h g some
    (tick_works k n e one acts h g (m.talks e step.ours) step) told heard
step_bounded k n d p top (SettledAt e) h g w some m step told heard =
    at_desk_or_not d e p top [] h g step.only told (λ same.
    subst (λ (known : List ℕ). Bounded p top known) (sym step.settles.told)
    (subst (λ (j : ℕ). ToldAtMost j p top h) (sym same) told))
step_bounded k n d p top (OpenedAt e) h g w some m step told heard =
    at_desk_or_not d e p top [] h g step.only told (λ same.
    subst (λ (known : List ℕ). Bounded p top known) (sym step.opened.opens.told)
    (nothing_bounded p top))
step_bounded k n d p top (CutAt e one acts) h g w some m step told heard =
    at_desk_or_not d e p top acts h g step.only told (λ same.
    subst (λ (known : List ℕ). Bounded p top known) (sym step.opened.opens.told)
    (nothing_bounded p top))

steps_bounded : {K : Type 0} (k : Ghosts K) → CallsAreHappenings k → (n d p top j : ℕ)
    (h : Hall K) (w : World) (ss : List (HallStep K))
    → 1 ≤ p → Matches k n h w → AreSteps k n h ss → ToldAtMost d p top h
    → ((m : Message) → WasHeard (take j ss) d m → m.from ≡ p → length_told m.body ≤ top)
    → ToldAtMost d p top (hall_after h (take j ss))
steps_bounded k law n d p top zero h w [] some m steps told heard = told
steps_bounded k law n d p top (suc j) h w [] some m steps told heard = told
steps_bounded k law n d p top zero h w (s ∷ ss) some m steps told heard = told
steps_bounded {K} k law n d p top (suc j) h w (s ∷ ss) some m steps told heard =
    let one = step_comes k law n s.event h s.after w m steps.0 in
    steps_bounded k law n d p top j s.after (real_run n w one.hs) ss some one.matches steps.1
    (step_bounded k n d p top s.event h s.after w some m steps.0 told
    (λ here x is. heard x (now x here is))) (λ x was. heard x (later x was))
  where
    now : (x : Message) → desk_of s.event ≡ d → IsHeardIn x (calls_of (acts_of s.event))
        → WasHeard (s ∷ take j ss) d x
    now x here is = record { at = 0; step = s; here = refl; desk = here; heard = is }

    later : (x : Message) → WasHeard (take j ss) d x → WasHeard (s ∷ take j ss) d x
    later x was =
        record {
          at = suc was.at;
          step = was.step;
          here = was.here;
          desk = was.desk;
          heard = was.heard;
        }

-- ---- on a connection

-- what is asked by a frame for this desk
asks : (home : Home) (f : Frame) (w : FrameBody) → is_ours home f ≡ true → f.what ≡ w
    → request home f ≡ ours f.from f.to w
asks home f w here is = cc

some_entries : (v : Version) (n : ℕ) → IsCount v n → 1 ≤ n
some_entries One n h = omega arith
some_entries _ n h = h.0

-- the last of the entries says how long the log is
last_given : (from to pos : ℕ) (es : List Entry) → 1 ≤ length es
    → (m : Message) × IsGiven m (decided_each from to pos es) × (m.from ≡ from)
    × (length_told m.body ≡ pos + length es)
last_given from to pos [] h = absurd (omega (arith, h))
last_given from to pos (e ∷ []) h =
    let end : pos + 1 ≡ pos + length (e ∷ []) = omega arith in
    (record { from = from; to = to; body = body.Decided pos e }, inl refl, refl, end)
last_given from to pos (e ∷ f ∷ es) h =
    let more = last_given from to (pos + 1) (f ∷ es) (omega arith) in
    let end : pos + 1 + length (f ∷ es) ≡ pos + length (e ∷ f ∷ es) = omega arith in
    (more.0, inr more.1, more.2, more.3 ∙ end)

-- what a frame says of its sender's log is what one of its messages says
frame_bounded : (home : Home) (f : Frame) (top : ℕ) → is_ours home f ≡ true → IsFrame f
    → ((m : Message) → IsGiven m (delivers (request home f)) → m.from ≡ f.from
    → length_told m.body ≤ top) → (w : FrameBody) → f.what ≡ w → length_said w ≤ top
frame_bounded home f top here spelled tells (what.Decided pos es) is =
    let counted : IsCount f.version (length es) =
    (subst (λ (w : FrameBody). IsBody f.version w) is spelled.body).0 in
    let last = last_given f.from f.to pos es (some_entries f.version (length es) counted) in
    let given : IsGiven last.0 (delivers (request home f)) =
    subst (λ (r : Request). IsGiven last.0 (delivers r))
    (sym (asks home f (what.Decided pos es) here is)) last.1 in
    let most = tells last.0 given last.2 in
    let told = last.3 in
    omega arith
frame_bounded home f top here spelled tells (what.Behind len) is =
    let m : Message = record { from = f.from; to = f.to; body = body.Behind len } in
    let given : IsGiven m (delivers (request home f)) =
    subst (λ (r : Request). IsGiven m (delivers r))
    (sym (asks home f (what.Behind len) here is)) (inl refl) in
    tells m given refl
frame_bounded home f top here spelled tells _ is = omega arith

-- a desk of the hall says it
heard_here : (home : Home) (may : Permission) (f : Frame) → hears home may f ≡ true
    → (is_ours home f ≡ true) × IsDesk home.desks f.from
heard_here home may f is =
    let rest : (is_all may && is_desk home.desks f.from) ≡ true =
    second_of_both (is_ours home f) (is_all may && is_desk home.desks f.from) is in (
      first_of_both (is_ours home f) (is_all may && is_desk home.desks f.from) is,
      desk_from_test _ _ (second_of_both _ _ rest),
    )

known_bounded : (home : Home) (may : Permission) (p top : ℕ) (known : List ℕ)
    (before : List Frame) → 1 ≤ p → AllByRecursion (λ g. IsFrame g) before → Bounded p top known
    → ((m : Message) → IsBrought home m before → m.from ≡ p → length_told m.body ≤ top)
    → Bounded p top (known_behind home may known before)
known_bounded home may p top known [] some spelled h heard = h
known_bounded home may p top known (f ∷ fs) some spelled h heard =
    known_bounded home may p top (known_after home may known f) fs some spelled.1
    (go (hears home may f) refl) (λ m one. heard m (inr one))
  where
    go : (t : Bool) → hears home may f ≡ t
        → Bounded p top (if t then raised f.from (length_said f.what) known else known)
    go false is = h
    go true is =
        let said = heard_here home may f is in
        raised_bounded p f.from (length_said f.what) top known some said.1.0 h (λ same.
        frame_bounded home f top said.0 spelled.0
        (λ m given from. heard m (inl given) (from ∙ same)) f.what refl)

-- ---- nothing differs

not_shorter : (desk len : ℕ) (known : List ℕ) → Bounded desk len known
    → shorter desk len known ≡ None
not_shorter desk len known h =
    let most : get_or known (desk - 1) 0 ≤ len = h in
    let within : nat_lt len (get_or known (desk - 1) 0) ≡ false = grind (arith, nat_tests) in
    ap (λ (t : Bool). cond t (Some (Shorter desk len)) None) within

frame_alike : (f : Frame) (log : List Entry) (known : List ℕ)
    → ((pos : ℕ) (es : List Entry) → f.what ≡ what.Decided pos es
    → other_from f.from pos es log ≡ None)
    → ((len : ℕ) → f.what ≡ what.Behind len → shorter f.from len known ≡ None)
    → (w : FrameBody) → f.what ≡ w → what_differs f.from w log known ≡ None
frame_alike f log known runs lengths (what.Decided pos es) is = runs pos es is
frame_alike f log known runs lengths (what.Behind len) is = lengths len is
frame_alike f log known runs lengths _ is = refl

pub hall_never_differs : {K : Type 0} (k : Ghosts K) → CallsAreHappenings k → HallRunsAgree k
    → HallLengthsGrow k → HallNeverDiffers k
hall_never_differs {K} k law agree grow n h ss i j d may before f is ours new comes =
    go (hears home may f) refl
  where
    home : Home
    home = home_at k (h.desks d)

    sent : List Message
    sent = (hall_after h (take i ss)).sent

    log : List Entry
    log = hall_log h ss i d

    known : List ℕ
    known = known_behind home may ((hall_after h (take j ss)).desks d).node.told before

    named : home.desk ≡ d
    named = (is.first d ours).node.desk

    later : (m x : Message) (len : ℕ) → m.from ≡ x.from → x.body ≡ body.Behind len
        → WereSentInOrder sent m x → length_told m.body ≤ len
    later m x len same behind order =
        grow n h ss i order.first order.second len m x is order.order order.one_sent
        order.other_sent same behind

    runs : is_ours home f ≡ true → (pos : ℕ) (es : List Entry) → f.what ≡ what.Decided pos es
        → other_from f.from pos es log ≡ None
    runs here pos es said =
        let given : WereSentTo home.desk sent (decided_each f.from f.to pos es) =
        subst (λ (r : Request). WereSentTo home.desk sent (delivers r))
        (asks home f (what.Decided pos es) here said) comes.sent in
        let tested : (f.to == home.desk) ≡ true =
        second_of_both (f.hall == home.hall) (f.to == home.desk) here in
        let own : f.to ≡ home.desk = grind (arith, nat_tests) in
        let to : f.to ≡ d = own ∙ named in
        agree n h ss i d f.from pos es is ours
        (subst (λ (z : ℕ). WereSentTo d sent (decided_each f.from z pos es)) to
        (subst (λ (z : ℕ). WereSentTo z sent (decided_each f.from f.to pos es)) named given))

    lengths : is_ours home f ≡ true → IsDesk home.desks f.from → (len : ℕ)
        → f.what ≡ what.Behind len → shorter f.from len known ≡ None
    lengths here theirs len said =
        let x : Message = record { from = f.from; to = f.to; body = body.Behind len } in
        let given : IsGiven x (delivers (request home f)) =
        subst (λ (r : Request). IsGiven x (delivers r))
        (sym (asks home f (what.Behind len) here said)) (inl refl) in
        not_shorter f.from len known (known_bounded home may f.from len
        ((hall_after h (take j ss)).desks d).node.told before theirs.0 comes.spelled
        (steps_bounded k law n d f.from len j h new_world ss theirs.0 (first_matches k n h ss is)
        is.taken (subst (λ (told : List ℕ). Bounded f.from len told) (sym new)
        (nothing_bounded f.from len)) (λ m was from. later m x len from refl
        (comes.after_heard m x from
        (subst (λ (z : ℕ). WasHeard (take j ss) z m) (sym named) was) given)))
        (λ m one from. later m x len from refl (comes.after_frames m x from one given)))

    go : (t : Bool) → hears home may f ≡ t
        → (if t then what_differs f.from f.what log known else None) ≡ None
    go false heard = refl
    go true heard =
        let said = heard_here home may f heard in
        frame_alike f log known (runs said.0) (lengths said.0 said.1) f.what refl
