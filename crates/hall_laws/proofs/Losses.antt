-- Halls whose desks lose work again and again are halls in which none is lost.
use Rattle.learner.{proofs.Cases.by_test, specs.Worlds.nth_sent}
use Rattle.std.proofs.Common.{◌≡◌, ◌≢◌, inl, inr, refl, sym, ap, subst, ◌∙◌, ℕ, zero, suc, eqb}
use Rattle.std.proofs.Common.{List, [], ◌∷◌, ◌++◌, None, Some, append_assoc}
use Rattle.std.{specs.Prelude.slice_get, proofs.lemmas.Bool.eqb-true, proofs.lemmas.Bool.eqb-false}
use Rattle.acceptor.specs.declared.message.Message.{Message}
use Rattle.learner.specs.declared.event.DeskEvent.{DeskEvent, TheVariants.Deliver}
use Rattle.serving.specs.{Connection.asked, Making.calls_of, Serving.Act}
use Rattle.serving.specs.TurnLaw.{Began, Turn}
use Rattle.store.specs.declared.{home.Home.Home, keeper.Keeper.Ghosts}
use Rattle.hall_laws.specs.HallRuns.{AreSteps, CutAt, Hall, HallEvent, HallGoes, HallStep}
use Rattle.hall_laws.specs.HallRuns.{IsHallRun, OnlyAt, OpenedAt, SettledAt, Station, TickedAt}
use Rattle.hall_laws.specs.HallRuns.{TurnAt, TurnWasSent, acts_of, hall_after, home_at}
use Rattle.hall_laws.specs.Losses.{AreLosses, ArePartOf, Loss, LossesAreNothing, hall_past}
use Rattle.hall_laws.specs.{Losses.hall_without, Served.IsSentTo, Arriving.delivers}
use Rattle.hall_laws.specs.{Served.all_handed_out, OwnMessages.WereSentTo, OwnMessages.sent_after}
use Rattle.hall_laws.specs.Lost.{AreWorkOf, GoesWithout, Loses, LostWorkIsNothing}
use Rattle.hall_laws.proofs.HallGoing.{after_both, only_of, run_more}

-- ---- messages with some left out

all_of_them : (ms : List Message) → ArePartOf ms ms
all_of_them [] = refl
all_of_them (m ∷ ms) = inr (ms, refl, all_of_them ms)

none_of_them : (ms : List Message) → ArePartOf [] ms
none_of_them [] = refl
none_of_them (m ∷ ms) = inl (none_of_them ms)

part_more : (ms xs more : List Message) → ArePartOf ms xs → ArePartOf ms (xs ++ more)
part_more ms [] more h = subst (λ z. ArePartOf z more) (sym h) (none_of_them more)
part_more ms (x ∷ xs) more (inl h) = inl (part_more ms xs more h)
part_more ms (x ∷ xs) more (inr h) = inr (h.0, h.1, part_more h.0 xs more h.2)

part_both : (ms xs more : List Message) → ArePartOf ms xs → ArePartOf (ms ++ more) (xs ++ more)
part_both ms [] more h = subst (λ z. ArePartOf (z ++ more) more) (sym h) (all_of_them more)
part_both ms (x ∷ xs) more (inl h) = inl (part_both ms xs more h)
part_both ms (x ∷ xs) more (inr h) =
    inr (h.0 ++ more, ap (λ z. z ++ more) h.1, part_both h.0 xs more h.2)

part_got : (ms xs : List Message) (at : ℕ) (m : Message) → ArePartOf ms xs
    → slice_get ms at ≡ Some m → (k : ℕ) × (slice_get xs k ≡ Some m)
part_got ms [] at m h got = absurd (let none : None ≡ Some m = rw h at got in cc)
part_got ms (x ∷ xs) at m (inl h) got =
    let r = part_got ms xs at m h got in (suc r.0, r.1)
part_got ms (x ∷ xs) at m (inr h) got = by at (λ i is. part_got h.0 xs i m h.2 is) (rw h.1 at got)
  where
    by : (i : ℕ) → ((j : ℕ) → slice_get h.0 j ≡ Some m → (k : ℕ) × (slice_get xs k ≡ Some m))
        → slice_get (x ∷ h.0) i ≡ Some m → (k : ℕ) × (slice_get (x ∷ xs) k ≡ Some m)
    by zero later is = (0, is)
    by (suc i) later is = let r = later i is in (suc r.0, r.1)

part_nth : (ms xs : List Message) (at : ℕ) (m : Message) → ArePartOf ms xs
    → nth_sent ms at ≡ Some m → (k : ℕ) × (nth_sent xs k ≡ Some m)
part_nth ms xs zero m h got = absurd (let none : None ≡ Some m = got in cc)
part_nth ms xs (suc at) m h got = let r = part_got ms xs at m h got in (suc r.0, r.1)

event_part : (d : ℕ) (ms xs : List Message) (event : DeskEvent) → ArePartOf ms xs
    → IsSentTo d ms event → IsSentTo d xs event
event_part d ms xs (Deliver m) h s = let r = part_nth ms xs s.0 m h s.1 in (r.0, r.1, s.2)
event_part d ms xs _ h s = tt

sent_part : (d : ℕ) (ms xs : List Message) (es : List DeskEvent) → ArePartOf ms xs
    → WereSentTo d ms es → WereSentTo d xs es
sent_part d ms xs [] h s = tt
sent_part d ms xs (e ∷ es) h s = (event_part d ms xs e h s.0, sent_part d ms xs es h s.1)

turn_part : (home : Home) (ms xs : List Message) (turn : Turn) → ArePartOf ms xs
    → TurnWasSent home ms turn → TurnWasSent home xs turn
turn_part home ms xs (Began one) h s = sent_part home.desk ms xs (delivers (asked home one)) h s
turn_part home ms xs _ h s = tt

-- ---- the same steps, where more was sent

-- the hall in which this was sent
abbrev saying : {K : Type 0} → Hall K → List Message → Hall K
saying h sent = record { desks = h.desks; sent = sent }

only_said : {K : Type 0} (d : ℕ) (acts : List Act) (h g : Hall K) (sent : List Message)
    → OnlyAt d acts h g → OnlyAt d acts (saying h sent) (saying g (sent_after sent acts))
only_said d acts h g sent only = record { others = only.others; sent = refl }

goes_said : {K : Type 0} (k : Ghosts K) (n : ℕ) (event : HallEvent) (h g : Hall K)
    (sent : List Message) → ArePartOf h.sent sent → HallGoes k n event h g
    → HallGoes k n event (saying h sent) (saying g (sent_after sent (acts_of event)))
goes_said k n (TurnAt d t acts) h g sent part s =
    search (
      s.ours,
      s.turn,
      s.wire,
      s.done,
      turn_part (home_at k (h.desks d)) h.sent sent t.turn
          part s.brings,
      only_said d acts h g sent s.only,
    )
goes_said k n (TickedAt d one acts) h g sent part s =
    search (
      s.ours,
      s.asked,
      s.rest,
      s.parts,
      s.made,
      s.talks,
      s.wire,
      only_said d acts h g sent
          s.only,
    )
goes_said k n (SettledAt d) h g sent part s =
    search (s.ours, s.settles, s.talks, s.wire, only_said d [] h g sent s.only)
goes_said k n (OpenedAt d) h g sent part s =
    search (s.ours, s.keeper, s.store, s.opened, only_said d [] h g sent s.only)
goes_said k n (CutAt d one acts) h g sent part s =
    search (
      s.ours,
      s.next,
      sent_part (home_at k (h.desks d)).desk h.sent sent
          (delivers (asked (home_at k (h.desks d)) one)) part s.brings,
      s.rest,
      s.parts,
      s.node,
      s.calls,
      s.keeper,
      s.store,
      s.opened,
      only_said d acts h g sent s.only,
    )

record Said {K : Type 0} (k : Ghosts K) (n : ℕ) (h : Hall K) (ss : List (HallStep K))
    (sent : List Message) : Type 0 where
  steps : List (HallStep K)
  taken : AreSteps k n (saying h sent) steps
  own : (d : ℕ) → AreWorkOf d ss → AreWorkOf d steps
  after : List Message
  end : hall_after (saying h sent) steps ≡ saying (hall_after h ss) after
  part : ArePartOf (hall_after h ss).sent after

said : {K : Type 0} (k : Ghosts K) (n : ℕ) (h : Hall K) (ss : List (HallStep K))
    (sent : List Message) → ArePartOf h.sent sent → AreSteps k n h ss → Said k n h ss sent
said k n h [] sent part steps = record {
  steps = [];
  taken = tt;
  own = λ d own. own;
  after = sent;
  end = refl;
  part = part;
}
said {K} k n h (s ∷ ss) sent part steps =
    let now = sent_after sent (acts_of s.event) in
    let only = only_of k n s.event h s.after steps.0 in
    let later =
    said k n s.after ss now (subst (λ z. ArePartOf z now) (sym only.sent)
    (part_both h.sent sent (all_handed_out (calls_of (acts_of s.event))) part)) steps.1 in
    record {
      steps = record { event = s.event; after = saying s.after now } ∷ later.steps;
      taken = (goes_said k n s.event h s.after sent part steps.0, later.taken);
      own = λ d own. (own.0, later.own d own.1);
      after = later.after;
      end = later.end;
      part = later.part;
    }

lost_said : {K : Type 0} (k : Ghosts K) (n d : ℕ) (h : Hall K) (work : List (HallStep K))
    (y : Station K) (sent : List Message) (l : Loses k n d h work y) (w : Said k n h work sent)
    → Loses k n d (saying h sent) w.steps y
lost_said {K} k n d h work y sent l w = record {
  ours = l.ours;
  rests = l.rests;
  steps = w.taken;
  own = w.own d l.own;
  keeper = l.keeper;
  home = l.home;
  honest = subst (λ (u : Hall K). k.is_honest (u.desks d).node.keeper) (sym w.end) l.honest;
  found = rw w.end l.found;
  opened = l.opened;
}

-- ---- losses, one after the other

record Comes {K : Type 0} (k : Ghosts K) (n : ℕ) (first : Hall K) (before : List (HallStep K))
    (real : Hall K) : Type 0 where
  steps : List (HallStep K)
  run : IsHallRun k n first (before ++ steps)
  sent : List Message
  is : hall_after first (before ++ steps) ≡ saying real sent
  part : ArePartOf real.sent sent

-- steps that none is lost of
steps_come : {K : Type 0} (k : Ghosts K) (n : ℕ) (first : Hall K) (before : List (HallStep K))
    (real : Hall K) (sent : List Message) (ss : List (HallStep K))
    → IsHallRun k n first before → hall_after first before ≡ saying real sent
    → ArePartOf real.sent sent → AreSteps k n real ss → Comes k n first before (hall_after real ss)
steps_come {K} k n first before real sent ss run is part steps =
    let s = said k n real ss sent part steps in
    record {
      steps = s.steps;
      run =
          run_more k n first before s.steps run
          (subst (λ (u : Hall K). AreSteps k n u s.steps) (sym is) s.taken);
      sent = s.after;
      is = after_both first before s.steps ∙ ap (λ (u : Hall K). hall_after u s.steps) is ∙ s.end;
      part = s.part;
    }

-- the desks where the one was opened again
desks_without : {K : Type 0} (h : Hall K) (l : Loss K) (u : Hall K) → u.desks l.desk ≡ l.again
    → ((j : ℕ) → j ≢ l.desk → u.desks j ≡ (hall_after h l.steps).desks j)
    → (j : ℕ) → u.desks j ≡ (hall_without h l).desks j
desks_without {K} h l u here others j =
    by_test (λ z. u.desks j ≡ z) (eqb j l.desk) _ _
    (λ is. subst (λ i. u.desks i ≡ l.again) (sym (eqb-true j l.desk is)) here)
    (λ is. others j (eqb-false j l.desk is))

-- one loss
loss_comes : {K : Type 0} (k : Ghosts K) → LostWorkIsNothing k → (n : ℕ) (first : Hall K)
    (before : List (HallStep K)) (real : Hall K) (sent : List Message) (l : Loss K)
    → IsHallRun k n first before → hall_after first before ≡ saying real sent
    → ArePartOf real.sent sent → AreSteps k n real l.steps
    → Loses k n l.desk (hall_after real l.steps) l.work l.again
    → Comes k n first before (hall_without real l)
loss_comes {K} k law n first before real sent l run is part steps lost = record {
  steps = c.steps ++ more;
  run = subst (λ ss. IsHallRun k n first ss) whole (run_more k n first at more c.run out.steps);
  sent = u.sent;
  is = ap (λ ss. hall_after first ss) (sym whole) ∙ after_both first at more ∙ stands;
  part =
      subst (λ z. ArePartOf (hall_after real l.steps).sent z) (sym all)
      (part_more (hall_after real l.steps).sent c.sent out.lands.more c.part);
}
  where
    c : Comes k n first before (hall_after real l.steps)
    c = steps_come k n first before real sent l.steps run is part steps

    at : List (HallStep K)
    at = before ++ c.steps

    work : Said k n (hall_after real l.steps) l.work c.sent
    work = said k n (hall_after real l.steps) l.work c.sent c.part lost.steps

    out : GoesWithout k n l.desk (hall_after first at) work.steps l.again
    out =
        law n first at l.desk work.steps l.again c.run
        (subst (λ (u : Hall K). Loses k n l.desk u work.steps l.again) (sym c.is)
        (lost_said k n l.desk (hall_after real l.steps) l.work l.again c.sent lost work))

    more : List (HallStep K)
    more = out.front ++ out.opening ∷ []

    u : Hall K
    u = hall_after (hall_after first at) more

    whole : at ++ more ≡ before ++ (c.steps ++ more)
    whole = append_assoc before c.steps more

    all : u.sent ≡ c.sent ++ out.lands.more
    all = out.lands.sent ∙ ap (λ (z : Hall K). z.sent ++ out.lands.more) c.is

    desks : (j : ℕ) → u.desks j ≡ (hall_without real l).desks j
    desks =
        desks_without real l u out.lands.here
        (λ j other. out.lands.others j other ∙ ap (λ (z : Hall K). z.desks j) c.is)

    stands : u ≡ saying (hall_without real l) u.sent
    stands = λ i. record { desks = λ j. desks j i; sent = u.sent }

all_come : {K : Type 0} (k : Ghosts K) → LostWorkIsNothing k → (n : ℕ) (first : Hall K)
    (before : List (HallStep K)) (real : Hall K) (sent : List Message) (ls : List (Loss K))
    (more : List (HallStep K))
    → IsHallRun k n first before → hall_after first before ≡ saying real sent
    → ArePartOf real.sent sent → AreLosses k n real ls → AreSteps k n (hall_past real ls) more
    → Comes k n first before (hall_after (hall_past real ls) more)
all_come k law n first before real sent [] more run is part losses steps =
    steps_come k n first before real sent more run is part steps
all_come k law n first before real sent (l ∷ ls) more run is part losses steps =
    let c = loss_comes k law n first before real sent l run is part losses.0 losses.1 in
    let later =
    all_come k law n first (before ++ c.steps) (hall_without real l) c.sent ls more c.run c.is
    c.part losses.2 steps in
    let whole = append_assoc before c.steps later.steps in
    record {
      steps = c.steps ++ later.steps;
      run = subst (λ ss. IsHallRun k n first ss) whole later.run;
      sent = later.sent;
      is = ap (λ ss. hall_after first ss) (sym whole) ∙ later.is;
      part = later.part;
    }

pub losses_are_nothing : {K : Type 0} (k : Ghosts K) → LostWorkIsNothing k → LossesAreNothing k
losses_are_nothing {K} k law n first before real losses more run stands lost steps =
    let sent = (hall_after first before).sent in
    let same : hall_after first before ≡ saying real sent =
    λ i. record { desks = λ j. stands.desks j i; sent = sent } in
    let c = all_come k law n first before real sent losses more run same stands.sent lost steps in
    record {
      steps = c.steps;
      run = c.run;
      stands =
          record {
            desks = λ j. ap (λ (z : Hall K). z.desks j) c.is;
            sent = subst (λ (z : Hall K). ArePartOf (hall_after (hall_past real losses) more).sent
                z.sent) (sym c.is) c.part;
          };
    }
