-- In a hall of desks over keepers that never fail, what a turn leads to is sound: each desk works,
-- and each entry in it and in what was sent fits in a frame.
use Rattle.std.proofs.Common.{◌≡◌, refl, sym, ap, subst, ◌∙◌, ℕ, zero, suc, Bool, true, false, inl}
use Rattle.std.proofs.Common.{inr, List, [], ◌∷◌, ◌++◌, Some, Result, Ok, Err}
use Rattle.std.specs.Prelude.{IsOk, OnErr}
use Rattle.acceptor.specs.declared.{entry.Entry.Entry, message.Message.Message}
use Rattle.learner.specs.Contents.{BodyHolds, MessagesHold}
use Rattle.learner.specs.{Ranges.DeskIsInRange, Ranges.DoneIsInRange, Steps.IsDesk, Steps.step}
use Rattle.learner.specs.{Worlds.nth_sent, declared.event.DeskEvent.DeskEvent}
use Rattle.learner.specs.declared.event.DeskEvent.TheVariants.{Submit, Deliver}
use Rattle.learner.proofs.{Contents.messages_append, Contents.message_at, InRange.step_in_range}
use Rattle.replica.specs.{Handles.Handles, Handles.Takes, Handles.IsInFrame, Nodes.NodeValue}
use Rattle.replica.specs.declared.roles.fault.NodeFault.{NodeFault, TheVariants.Down}
use Rattle.serving.specs.{Making.Call, Making.Lead, Making.calls_of, Serving.Act}
use Rattle.store.specs.declared.home.Home.{Home}
use Rattle.hall_laws.specs.HallRuns.{Enters, Hall, HallEvent, IsTakenIn, OnlyAt, acts_of, desk_of}
use Rattle.hall_laws.{specs.Memory.Memory, specs.Memory.memory, proofs.ServedTurns.home_of}
use Rattle.hall_laws.specs.Served.{IsSentTo, AreSentTo, handed_out, all_handed_out}
use Rattle.hall_laws.proofs.Contents.{DeskFits, EventHolds, DoneHolds, IsMade, step_holds}
use Rattle.hall_laws.proofs.{HallNodes.each_of, HallSteps.WorksAt, Memory.Works, Memory.NoDown}

-- ---- a desk

pub record SoundAt (home : Home) (x : NodeValue Memory) : Type 0 where
  pub at : x.keeper.home ≡ home
  pub works : Works x
  pub holds : DeskFits IsInFrame home.desks x.desk
  pub range : DeskIsInRange home.desks x.desk

abbrev Fit : ℕ → List Message → Type 0
Fit n ms = MessagesHold IsInFrame (IsMade n) ms

-- what the event brings fits
event_fits : (n d : ℕ) (sent : List Message) (event : DeskEvent) → IsSentTo d sent event
    → Fit n sent → ((e : Entry) → event ≡ Submit e → IsInFrame e) → EventHolds IsInFrame n event
event_fits n d sent (Submit e) was fit given = given e refl
event_fits n d sent (Deliver m) was fit given = go was.0 was.1
  where
    go : (k : ℕ) → nth_sent sent k ≡ Some m → BodyHolds IsInFrame (IsMade n) m.body
    go zero is = absurd cc
    go (suc k) is = message_at IsInFrame (IsMade n) sent k m fit is
event_fits n d sent _ was fit given = tt

-- after a call
sound_call : (home : Home) → IsDesk home.desks home.desk → (sent : List Message) (c : Call)
    (x z : NodeValue Memory) → Handles memory x c.event c.answer z → ¬ (c.answer ≡ Err Down)
    → IsSentTo home.desk sent c.event → Fit home.desks sent
    → ((e : Entry) → IsTakenIn e (c ∷ []) → IsInFrame e) → SoundAt home x
    → SoundAt home z × Fit home.desks (handed_out c.answer)
sound_call home ours sent c x z h up was fit taken s = go c.answer refl
  where
    z_up : (b : Bool) → z.is_down ≡ b → z.is_down ≡ false
    z_up false is = is
    z_up true is = absurd (up (h.down.1 is))

    works : Works z
    works =
        let held = h.stored (z_up z.is_down refl) tt in
        record {
          up = z_up z.is_down refl;
          stored = sym held.holds.0;
          log = sym held.holds.1;
        }

    at : z.keeper.home ≡ home
    at = h.home ∙ s.at

    go : (r : Result (List Message) NodeFault) → c.answer ≡ r
        → SoundAt home z × Fit home.desks (handed_out c.answer)
    go (Ok ms) is =
        let ok : step x.keeper.home.desks x.keeper.home.desk x.desk c.event
        ≡ Ok (record { desk = z.desk; messages = ms })
        = (subst (λ r. Takes (step x.keeper.home.desks x.keeper.home.desk x.desk c.event)
        x.keeper.home.desks x.keeper.home.desk x.desk z.desk r) is (h.takes s.works.up)).ok in
        let stepped : step home.desks home.desk x.desk c.event
        ≡ Ok (record { desk = z.desk; messages = ms })
        = subst (λ (u : Home). step u.desks u.desk x.desk c.event
        ≡ Ok (record { desk = z.desk; messages = ms })) s.at ok in
        let fine = event_fits home.desks home.desk sent c.event was fit
        (λ e same. taken e (inl (same, ok_is ms is))) in
        let holds = subst (λ r. DoneHolds IsInFrame home.desks r) stepped
        (step_holds IsInFrame home.desks home.desk x.desk c.event ours s.holds fine) in
        let range = subst (λ r. DoneIsInRange home.desks home.desk r) stepped
        (step_in_range home.desks home.desk x.desk c.event ours s.range) in (
          record { at = at; works = works; holds = holds.0; range = range.0 },
          subst (λ r. Fit home.desks (handed_out r)) (sym is) holds.1,
        )
      where
        ok_is : (ms : List Message) → c.answer ≡ Ok ms → IsOk c.answer
        ok_is ms same = subst (λ r. IsOk r) (sym same) refl
    go (Err why) is =
        let same : z.desk ≡ x.desk
        = subst (λ r. OnErr r (z.desk ≡ x.desk)) is (h.takes s.works.up).err in (
          record {
            at = at;
            works = works;
            holds = subst (λ u. DeskFits IsInFrame home.desks u) (sym same) s.holds;
            range = subst (λ u. DeskIsInRange home.desks u) (sym same) s.range;
          },
          subst (λ r. Fit home.desks (handed_out r)) (sym is) tt,
        )

-- after calls
sound_calls : (home : Home) → IsDesk home.desks home.desk → (sent : List Message)
    (calls : List Call) (x y : NodeValue Memory) → Lead (Handles memory) x calls y → NoDown calls
    → AreSentTo home.desk sent calls → Fit home.desks sent
    → ((e : Entry) → IsTakenIn e calls → IsInFrame e) → SoundAt home x
    → SoundAt home y × Fit home.desks (all_handed_out calls)
sound_calls home ours sent [] x y lead up was fit taken s =
    (subst (λ (u : NodeValue Memory). SoundAt home u) lead s, tt)
sound_calls home ours sent (c ∷ cs) x y lead up was fit taken s =
    let one = sound_call home ours sent c x lead.0 lead.1 up.0 was.0 fit
    (λ e has. taken e (first e has)) s in
    let rest = sound_calls home ours (sent ++ handed_out c.answer) cs lead.0 y lead.2 up.1 was.1
    (messages_append IsInFrame (IsMade home.desks) sent (handed_out c.answer) fit one.1)
    (λ e has. taken e (inr has)) one.0 in (
      rest.0,
      messages_append IsInFrame (IsMade home.desks) (handed_out c.answer) (all_handed_out cs) one.1
          rest.1,
    )
  where
    first : (e : Entry) → IsTakenIn e (c ∷ []) → IsTakenIn e (c ∷ cs)
    first e (inl is) = inl is
    first e (inr none) = absurd none

-- ---- a hall

pub record Sound (hall n : ℕ) (h : Hall Memory) : Type 0 where
  pub desks : (d : ℕ) → IsDesk n d → SoundAt (home_of hall n d) (h.desks d).node
  pub sent : MessagesHold IsInFrame (IsMade n) h.sent

pub moved : (hall n d : ℕ) (acts : List Act) (h g : Hall Memory) → Sound hall n h
    → OnlyAt d acts h g → SoundAt (home_of hall n d) (g.desks d).node
    → Fit n (all_handed_out (calls_of acts)) → Sound hall n g
moved hall n d acts h g s only own fit = record {
  desks = λ j ours.
      each_of d h.desks g.desks only.others (λ i x. SoundAt (home_of hall n i) x.node) own j
      (λ other. s.desks j ours);
  sent =
      subst (λ ms. Fit n ms) (sym only.sent) (messages_append IsInFrame (IsMade n) _ _ s.sent fit);
}

-- a turn, or a Tick of its own
pub sound_works : (hall n : ℕ) (event : HallEvent) (h g : Hall Memory)
    → WorksAt memory n event h g → NoDown (calls_of (acts_of event))
    → ((e : Entry) → Enters event e → IsInFrame e) → Sound hall n h → Sound hall n g
sound_works hall n event h g does up fits s = moved hall n d acts h g s does.only all.0 all.1
  where
    d : ℕ
    d = desk_of event

    acts : List Act
    acts = acts_of event

    own : SoundAt (home_of hall n d) (h.desks d).node
    own = s.desks d does.ours

    all : SoundAt (home_of hall n d) (g.desks d).node × Fit n (all_handed_out (calls_of acts))
    all =
        sound_calls (home_of hall n d) does.ours h.sent (calls_of acts) (h.desks d).node
        (g.desks d).node does.lead up
        (subst (λ u. AreSentTo u h.sent (calls_of acts)) (ap (λ u. u.desk) own.at) does.sent)
        s.sent (λ e taken. fits e (does.enters e taken)) own
