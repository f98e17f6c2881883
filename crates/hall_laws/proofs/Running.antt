-- The calls of served frames are a run of the world.
use Rattle.std.proofs.Common.{◌≡◌, ◌⊎◌, inl, inr, sym, ◌∙◌, ℕ, [], ◌∷◌, ◌++◌, None, Some, Ok, Err}
use Rattle.std.proofs.Common.{refl, ap, Bool, true, false, cond, IsOk, List, length, Option, Result}
use Rattle.std.proofs.lemmas.{List.append_assoc, Bool.ltb-false}
use Rattle.acceptor.specs.declared.{entry.Entry.Entry, message.Message.Message}
use Rattle.learner.specs.{Desks.Desk, declared.event.DeskEvent.DeskEvent, Worlds.World}
use Rattle.learner.specs.declared.event.DeskEvent.TheVariants.{Submit, Start, Tick, Deliver}
use Rattle.learner.specs.declared.event.WorldEvent.{WorldEvent, TheVariants.Submit as SubmitAt}
use Rattle.learner.specs.declared.event.WorldEvent.TheVariants.{Start as StartAt, Tick as TickAt}
use Rattle.learner.specs.declared.event.WorldEvent.TheVariants.{Deliver as DeliverNth}
use Rattle.replica.specs.{Handles.Handles, Nodes.NodeValue}
use Rattle.store.specs.declared.keeper.Keeper.{Ghosts}
use Rattle.hall_laws.specs.Stops.{Happening, Answered, real_run, goes_on, with_desk, IsEventAt}
use Rattle.hall_laws.specs.{Stops.CallsAreHappenings, Served.CallsAreARun, HallRuns.IsTakenIn}
use Rattle.hall_laws.specs.Served.{handed_out, SheetsAreOfTheLog, AreSentTo, IsSentTo, StandsFor}
use Rattle.hall_laws.{specs.Served.all_handed_out, proofs.Calls.put_put, proofs.Calls.same_world}
use Rattle.progress.proofs.Aims.{put_self}
use Rattle.replica.specs.declared.roles.fault.NodeFault.{NodeFault}
use Rattle.wire.specs.declared.frame.FrameBody.{FrameBody}
use Rattle.serving.specs.{Answering.printed_as, Nodes.Fate, Nodes.Goes, Making.Call, Making.Lead}
use Rattle.wire.specs.declared.frame.FrameBody.TheVariants as what
use Rattle.wire.specs.declared.values.ClientRefusal.TheVariants as refusal

-- the event of the world that an event at desk d is
pub event_at : (d : ℕ) (sent : List Message) (event : DeskEvent) → IsSentTo d sent event
    → WorldEvent
event_at d sent (Submit e) s = SubmitAt d e
event_at d sent Start s = StartAt d
event_at d sent Tick s = TickAt d
event_at d sent (Deliver m) s = DeliverNth s.0

pub is_event_at : (d : ℕ) (w : World) (event : DeskEvent) (s : IsSentTo d w.sent event)
    → IsEventAt w (event_at d w.sent event s) d event
unfolding event_at
is_event_at d w (Deliver m) s = (m, s.1, s.2, refl)
is_event_at d w _ s = (refl, refl)

-- one of these happenings is an answered call that submits the entry
abbrev pub HasSubmit : Entry → List Happening → Type 0
HasSubmit e [] = ⊥
HasSubmit e (h ∷ hs) = ((j : ℕ) × (h ≡ Answered (SubmitAt j e))) ⊎ HasSubmit e hs

pub submit_in : (e : Entry) (hs ks : List Happening) → HasSubmit e (hs ++ ks)
    → HasSubmit e hs ⊎ HasSubmit e ks
submit_in e [] ks h = inr h
submit_in e (x ∷ hs) ks (inl is) = inl (inl is)
submit_in e (x ∷ hs) ks (inr h) = go (submit_in e hs ks h)
  where
    go : HasSubmit e hs ⊎ HasSubmit e ks → HasSubmit e (x ∷ hs) ⊎ HasSubmit e ks
    go (inl more) = inl (inr more)
    go (inr more) = inr more

submits_it : (d : ℕ) (sent : List Message) (event : DeskEvent) (s : IsSentTo d sent event) (j : ℕ)
    (e : Entry) → Answered (event_at d sent event s) ≡ Answered (SubmitAt j e) → event ≡ Submit e
unfolding event_at
submits_it d sent (Submit f) s j e is =
    let same : SubmitAt d f ≡ SubmitAt j e = cc in
    let entry : f ≡ e = cc in ap (λ z. Submit z) entry
submits_it d sent _ s j e is = absurd cc

pub run_both : (n : ℕ) (w : World) (hs ks : List Happening)
    → real_run n w (hs ++ ks) ≡ real_run n (real_run n w hs) ks
run_both n w [] ks = refl
run_both n w (h ∷ hs) ks = run_both n (goes_on n w h) hs ks

pub with_both : (w : World) (d : ℕ) (x y : Desk) (ms more : List Message)
    → with_desk w d y (ms ++ more) ≡ with_desk (with_desk w d x ms) d y more
with_both w d x y ms more =
    let desks = sym (put_put w.desks d x y) in
    let sent = sym (append_assoc w.sent ms more) in λ i. record { desks = desks i; sent = sent i }

-- what one call comes to: happenings, which submit what the call submits, where it was answered Ok
abbrev Comes : {K : Type 0} → ℕ → ℕ → World → DeskEvent → Result (List Message) NodeFault
    → NodeValue K → Type 0
Comes n d w event answer z =
    (hs : List Happening) × (with_desk w d z.desk (handed_out answer) ≡ real_run n w hs)
    × ((e : Entry) → HasSubmit e hs → (event ≡ Submit e) × IsOk answer)

up_call : {K : Type 0} (k : Ghosts K) → CallsAreHappenings k → (n d : ℕ) (w : World)
    (event : DeskEvent) (answer : Result (List Message) NodeFault) (x z : NodeValue K)
    → StandsFor k n d w x → x.is_down ≡ false → IsSentTo d w.sent event
    → Handles k x event answer z → Comes n d w event answer z
up_call k law n d w event (Ok ms) x z h up s c = (
  Answered (event_at d w.sent event s) ∷ [],
  law.answered n d w (event_at d w.sent event s) event x z ms
      (search (h.ours, h.desks, h.desk, h.known, up, is_event_at d w event s)) c,
  taken,
)
  where
    taken : (e : Entry) → HasSubmit e (Answered (event_at d w.sent event s) ∷ [])
        → (event ≡ Submit e) × IsOk {E = NodeFault} (Ok ms)
    taken e (inl is) = (submits_it d w.sent event s is.0 e is.1, refl)
    taken e (inr none) = absurd none
up_call k law n d w event (Err why) x z h up s c = (
  [],
  law.refused n d w (event_at d w.sent event s) event x z why
      (search (h.ours, h.desks, h.desk, h.known, up, is_event_at d w event s)) c,
  λ e none. absurd none,
)

-- a call of a desk that is down does nothing
down_call : {K : Type 0} (k : Ghosts K) (n d : ℕ) (w : World)
    (event : DeskEvent) (answer : Result (List Message) NodeFault) (x z : NodeValue K)
    → StandsFor k n d w x → x.is_down ≡ true
    → Handles k x event answer z → Comes n d w event answer z
down_call k n d w event answer x z h down c =
    let ended = c.ended down in
    ([], cc (same_world w d z.desk (ap (λ u. u.desk) ended.1 ∙ h.known)), λ e none. absurd none)

one_call : {K : Type 0} (k : Ghosts K) → CallsAreHappenings k → (n d : ℕ) (w : World)
    (event : DeskEvent) (answer : Result (List Message) NodeFault) (x z : NodeValue K) (b : Bool)
    → x.is_down ≡ b → StandsFor k n d w x → IsSentTo d w.sent event
    → Handles k x event answer z → Comes n d w event answer z
one_call k law n d w event answer x z false is h s c = up_call k law n d w event answer x z h is s c
one_call k law n d w event answer x z true is h s c = down_call k n d w event answer x z h is c

-- the node after what this one did, where more was handed out
pub stands_by : {K : Type 0} (k : Ghosts K) (n d : ℕ) (w : World) (x z : NodeValue K)
    (ms : List Message) → StandsFor k n d w x → k.home_of z.keeper ≡ k.home_of x.keeper
    → StandsFor k n d (with_desk w d z.desk ms) z
stands_by k n d w x z ms h home = record {
  ours = h.ours;
  desks = ap (λ u. u.desks) home ∙ h.desks;
  desk = ap (λ u. u.desk) home ∙ h.desk;
  known = sym (put_self w.desks d z.desk);
}

-- the calls come to happenings, which submit what calls that were answered Ok submit
abbrev pub CallsCome : {K : Type 0} → ℕ → ℕ → World → List Call → NodeValue K → Type 0
CallsCome n d w calls y =
    (hs : List Happening) × (with_desk w d y.desk (all_handed_out calls) ≡ real_run n w hs)
    × ((e : Entry) → HasSubmit e hs → IsTakenIn e calls)

pub calls_come : {K : Type 0} (k : Ghosts K) → CallsAreHappenings k → (n d : ℕ) (w : World)
    (calls : List Call) (x y : NodeValue K)
    → StandsFor k n d w x → AreSentTo d w.sent calls → Lead (Handles k) x calls y
    → CallsCome n d w calls y
calls_come k law n d w [] x y h s lead =
    ([], same_world w d y.desk (ap (λ u. u.desk) (sym lead) ∙ h.known), λ e none. absurd none)
calls_come k law n d w (c ∷ cs) x y h s lead =
    let z = lead.0 in
    let ms = handed_out c.answer in
    let one = one_call k law n d w c.event c.answer x z x.is_down refl h s.0 lead.1 in
    let w2 = with_desk w d z.desk ms in
    let rest =
    calls_come k law n d w2 cs z y
    (stands_by k n d w x z ms h lead.1.home) s.1 lead.2 in (
      one.0 ++ rest.0,
      cc (with_both w d z.desk y.desk ms (all_handed_out cs), run_both n w one.0 rest.0),
      λ e has. taken e one.0 rest.0 (one.2 e) (rest.2 e) (submit_in e one.0 rest.0 has),
    )
  where
    taken : (e : Entry) (hs ks : List Happening)
        → (HasSubmit e hs → (c.event ≡ Submit e) × IsOk c.answer)
        → (HasSubmit e ks → IsTakenIn e cs) → HasSubmit e hs ⊎ HasSubmit e ks → IsTakenIn e (c ∷ cs)
    taken e hs ks first later (inl has) = inl (first has)
    taken e hs ks first later (inr has) = inr (later has)

pub calls_run : {K : Type 0} (k : Ghosts K) → CallsAreHappenings k → CallsAreARun k
calls_run k law n d w calls x y h s lead =
    let come = calls_come k law n d w calls x y h s lead in (come.0, come.1)

-- a sheet that is answered
only_sheets : (fate : Fate) (o : Option (List ℕ)) (text : List ℕ)
    → printed_as fate o ≡ what.SheetText text → o ≡ Some text
only_sheets Goes None text h =
    absurd (let k : what.Refused refusal.NoSuchRound ≡ what.SheetText text = h in cc)
only_sheets Goes (Some t) text h = ap Some (text_of h)
  where
    text_of : {t text : List ℕ} → what.SheetText t ≡ what.SheetText text → t ≡ text
    text_of h = cc
only_sheets _ o text h =
    absurd (let k : what.Refused refusal.NoMemory ≡ what.SheetText text = h in cc)

only_there : (b : Bool) (fate : Fate) (o : Option (List ℕ)) (text : List ℕ)
    → cond b (what.Refused refusal.NotThere) (printed_as fate o) ≡ what.SheetText text
    → (b ≡ false) × (o ≡ Some text)
only_there true fate o text h =
    absurd (let k : what.Refused refusal.NotThere ≡ what.SheetText text = h in cc)
only_there false fate o text h = (refl, only_sheets fate o text h)

pub inside : {a b : FrameBody} → Some a ≡ Some b → a ≡ b
inside h = cc

pub sheets_law : SheetsAreOfTheLog
sheets_law home x fates event round position style text h =
    let found = only_there _ _ _ _ (inside h) in
    (ltb-false (length x.desk.log) position found.0, found.1)
