-- What a desk over a keeper that never fails does at a call, and that it serves what it is asked.
use Rattle.std.proofs.Common.{◌≡◌, refl, sym, ap, subst, ◌∙◌, ℕ, zero, suc, Bool, true, false}
use Rattle.std.proofs.Common.{if◌then◌else◌, List, [], ◌∷◌, Option, Some, None, Result, Ok, Err}
use Rattle.std.proofs.Common.{inl, inr, arith, ◌++◌}
use Rattle.std.specs.Prelude.{⊤}
use Rattle.acceptor.specs.declared.message.{Message.Message, Body.Body, Report.Report}
use Rattle.acceptor.specs.declared.message.Body.TheVariants.{Promise, Accept, Nack, Decided}
use Rattle.acceptor.specs.Storing.{stored_after, log_after}
use Rattle.proposer.specs.{declared.fault.Refusal.Refusal, Plans.IsNothing, Plans.only_say}
use Rattle.learner.specs.Contents.{BodyHolds, ReportHolds, MessagesHold}
use Rattle.learner.{specs.Desks.Desk, specs.Desks.passing, proofs.InRange.step_in_range}
use Rattle.learner.specs.Ranges.{AreInRange, DeskIsInRange, DoneIsInRange}
use Rattle.learner.specs.Steps.{Done, IsDesk, done, idle, is_heeded, on_body, step}
use Rattle.learner.specs.declared.event.DeskEvent.{DeskEvent, TheVariants.Deliver}
use Rattle.replica.specs.Handles.{Handles, FitInFrames, IsInFrame, IsIgnored, step_at}
use Rattle.replica.specs.{Lengths.told_by, Nodes.NodeValue, roles.Faults.refused_as}
use Rattle.replica.specs.declared.roles.fault.NodeFault.TheVariants.{Down}
use Rattle.hall_laws.specs.{Memory.Memory, Memory.memory, HallRuns.seen_of}
use Rattle.hall_laws.proofs.Contents.{IsMade, DeskFits, EventHolds, DoneHolds, step_holds}
use Rattle.answers.specs.Seen.{Seen}
use Rattle.serving.specs.Making.{Call, Lead, calls_of}
use Rattle.serving.specs.Nodes.{Reply, by_step, reply}
use Rattle.serving.specs.Serving.{Act, Called, Service, first_fate, answered, later_fates, call}
use Rattle.store.specs.declared.home.Home.{Home}
use Rattle.hall_laws.proofs.OwnMessages.{calls_both, no_calls}
use Rattle.proposer.specs.declared.fault.Refusal.TheVariants as refusal

-- ---- what is handed out fits in frames

report_fits : (n : ℕ) (o : Option Report) → ReportHolds IsInFrame (IsMade n) o
    → ReportHolds IsInFrame (λ b. ⊤) o
report_fits n None h = tt
report_fits n (Some r) h = (tt, h.1)

body_fits : (n : ℕ) (body : Body) → BodyHolds IsInFrame (IsMade n) body
    → BodyHolds IsInFrame (λ b. ⊤) body
body_fits n (Promise b pos vote) h = (tt, report_fits n vote h.1)
body_fits n (Accept b pos e) h = (tt, h.1)
body_fits n (Nack b pos promised) h = (tt, tt)
body_fits n (Decided pos e) h = h
body_fits n _ h = tt

messages_fit : (n : ℕ) (ms : List Message) → MessagesHold IsInFrame (IsMade n) ms → FitInFrames ms
messages_fit n [] h i m less = absurd (omega (arith, less))
messages_fit n (x ∷ ms) h zero m less = body_fits n x.body h.0
messages_fit n (x ∷ ms) h (suc i) m less = messages_fit n ms h.1 i m (omega (arith, less))

-- ---- a refusal

same_refusal : (a b : Refusal) → refused_as a ≡ refused_as b → a ≡ b
same_refusal refusal.Busy refusal.Busy is = refl
same_refusal refusal.Busy refusal.LogFull is = absurd cc
same_refusal refusal.Busy refusal.BallotsSpent is = absurd cc
same_refusal refusal.LogFull refusal.Busy is = absurd cc
same_refusal refusal.LogFull refusal.LogFull is = refl
same_refusal refusal.LogFull refusal.BallotsSpent is = absurd cc
same_refusal refusal.BallotsSpent refusal.Busy is = absurd cc
same_refusal refusal.BallotsSpent refusal.LogFull is = absurd cc
same_refusal refusal.BallotsSpent refusal.BallotsSpent is = refl

pub not_down : (why : Refusal) → refused_as why ≡ Down → ⊥
not_down refusal.Busy is = absurd cc
not_down _ is = absurd cc

-- ---- a call

-- the node after a step, and its keeper
abbrev pub node_after : NodeValue Memory → DeskEvent → Done → NodeValue Memory
node_after x event r = record {
  keeper = record { home = x.keeper.home; stored = r.desk.stored; log = r.desk.log };
  desk = r.desk;
  is_down = false;
  told = told_by x.keeper.home event x.told;
}

-- what is to know of a node that works
pub record Works (x : NodeValue Memory) : Type 0 where
  pub up : x.is_down ≡ false
  pub stored : x.keeper.stored ≡ x.desk.stored
  pub log : x.keeper.log ≡ x.desk.log

pub no_fault : {A B : Type 0} {a : A} {b : B} → Ok a ≡ Err b → ⊥
no_fault is = cc

-- the step at a message, where the desk heeds it or not
abbrev told_so : ℕ → ℕ → Desk → Message → Bool → Result Done Refusal
told_so n d x m t = if t then Ok (done x (on_body n d x m.from m.body)) else Ok (idle x)

-- a message that is ignored changes nothing that is stored
ignored_same : (n d : ℕ) (x : Desk) (event : DeskEvent) (r : Done)
    → IsIgnored n d x event → step n d x event ≡ Ok r
    → (r.desk.stored ≡ x.stored) × (r.desk.log ≡ x.log)
ignored_same n d x (Deliver m) r none is = go (is_heeded n d m) none is
  where
    go : (t : Bool) → IsNothing (if t then on_body n d x m.from m.body else only_say (passing x) [])
        → told_so n d x m t ≡ Ok r → (r.desk.stored ≡ x.stored) × (r.desk.log ≡ x.log)
    go true nothing same =
        let p = on_body n d x m.from m.body in
        let is1 : done x p ≡ r = cc in (
          ap (λ (z : Done). z.desk.stored) (sym is1)
              ∙ ap (λ c. stored_after x.stored c) nothing.1,
          ap (λ (z : Done). z.desk.log) (sym is1) ∙ ap (λ c. log_after x.log c) nothing.1,
        )
    go false nothing same =
        let is1 : idle x ≡ r = cc in
        (ap (λ (z : Done). z.desk.stored) (sym is1), ap (λ (z : Done). z.desk.log) (sym is1))
ignored_same n d x _ r none is = absurd none

never_refused : (n d : ℕ) (x : Desk) (event : DeskEvent) (why : Refusal) → IsIgnored n d x event
    → step n d x event ≡ Err why → ⊥
never_refused n d x (Deliver m) why none is = go (is_heeded n d m) is
  where
    go : (t : Bool) → told_so n d x m t ≡ Err why → ⊥
    go true same = no_fault same
    go false same = no_fault same
never_refused n d x _ why none is = none

range_of : (n d : ℕ) (x : Desk) (event : DeskEvent) (r : Done) → IsDesk n d → DeskIsInRange n x
    → step n d x event ≡ Ok r → DeskIsInRange n r.desk × AreInRange n d r.messages
range_of n d x event r ours h is =
    subst (λ z. DoneIsInRange n d z) is (step_in_range n d x event ours h)

pub takes : (x : NodeValue Memory) (event : DeskEvent) (r : Done)
    → step_at x.keeper.home x.desk event ≡ Ok r
    → IsDesk x.keeper.home.desks x.keeper.home.desk → DeskIsInRange x.keeper.home.desks x.desk
    → MessagesHold IsInFrame (IsMade x.keeper.home.desks) r.messages → Works x
    → Handles memory x event (Ok r.messages) (node_after x event r)
takes x event r is ours range holds works = record {
  ended = λ down. absurd (let two : false ≡ true = sym works.up ∙ down in cc);
  takes = λ up.
      record {
        ok = is;
        range = (range_of x.keeper.home.desks x.keeper.home.desk x.desk event r ours range is).1;
        refused = λ why. (λ no. absurd (no_fault no), λ no. absurd (no_fault (sym is ∙ no)));
        err = tt;
      };
  entries = messages_fit x.keeper.home.desks r.messages holds;
  told = refl;
  ignored = λ up none.
      let same = ignored_same x.keeper.home.desks x.keeper.home.desk x.desk event r none is in
      let stored = same.0 ∙ sym works.stored in
      let log = same.1 ∙ sym works.log in
      (refl, λ i. record { home = x.keeper.home; stored = stored i; log = log i });
  down = (λ no. absurd (no_fault no), λ no. absurd (let two : false ≡ true = no in cc));
  counted = λ up no. absurd (no_fault no);
  uncounted = λ no. refl;
  stored = λ up honest. record { holds = (refl, refl); only = λ t more may. may; whole = λ no. no };
  left = λ up down. absurd (let two : false ≡ true = down in cc);
  finds = λ honest s log found. inr (tt, found);
  honest = λ honest. honest;
  home = refl;
}

pub refuses : (x : NodeValue Memory) (event : DeskEvent) (why : Refusal)
    → step_at x.keeper.home x.desk event ≡ Err why → Works x
    → Handles memory x event (Err (refused_as why)) x
refuses x event why is works = record {
  ended = λ down. absurd (let two : false ≡ true = sym works.up ∙ down in cc);
  takes = λ up.
      record {
        ok = tt;
        range = tt;
        refused = λ w. (
          λ no. is ∙ ap (λ z. Err z) (same_refusal why w (let q = no in cc)),
          λ no.
              let same : why ≡ w = (let q = sym is ∙ no in cc) in
              ap (λ z. Err (refused_as z)) same,
        );
        err = refl;
      };
  entries = tt;
  told = refl;
  ignored = λ up none.
      absurd (never_refused x.keeper.home.desks x.keeper.home.desk x.desk event why none is);
  down = (
    λ no. absurd (not_down why (let q = no in cc)),
    λ no. absurd (let two : false ≡ true = sym works.up ∙ no in cc),
  );
  counted = λ up no. absurd (not_down why (let q = no in cc));
  uncounted = λ no. refl;
  stored = λ up honest.
      record {
        holds = (sym works.stored, sym works.log);
        only = λ t more may. (may.0 ∙ works.stored, may.1 ∙ works.log);
        whole = λ no. no;
      };
  left = λ up down. absurd (let two : false ≡ true = sym works.up ∙ down in cc);
  finds = λ honest s log found. inl found;
  honest = λ honest. honest;
  home = refl;
}

-- ---- A desk over a keeper that never fails serves what it is asked.

-- no call is answered Down
abbrev pub NoDown : List Call → Type 0
NoDown [] = Unit {0}
NoDown (c ∷ cs) = ¬ (c.answer ≡ Err Down) × NoDown cs

quiet_more : (calls : List Call) (c : Call) → NoDown calls → ¬ (c.answer ≡ Err Down)
    → NoDown (calls ++ c ∷ [])
quiet_more [] c h never = (never, tt)
quiet_more (k ∷ calls) c h never = (h.0, quiet_more calls c h.1 never)

-- The calls so far lead to a node that works, and that is what is seen. Each entry in it fits in a
-- frame.
pub record Led (home : Home) (a : NodeValue Memory) (s : Service) : Type 0 where
  pub node : NodeValue Memory
  pub lead : Lead (Handles memory) a (calls_of s.done) node
  pub seen : s.seen ≡ seen_of node
  pub works : Works node
  pub at : node.keeper.home ≡ home
  pub holds : DeskFits IsInFrame home.desks node.desk
  pub range : DeskIsInRange home.desks node.desk
  pub fates : s.fates ≡ []
  pub quiet : NoDown (calls_of s.done)

-- one call more
lead_more : (calls : List Call) (a x y : NodeValue Memory) (c : Call)
    → Lead (Handles memory) a calls x → Handles memory x c.event c.answer y
    → Lead (Handles memory) a (calls ++ c ∷ []) y
lead_more [] a x y c lead one = (y, rw lead one, refl)
lead_more (k ∷ calls) a x y c lead one = (lead.0, lead.1, lead_more calls lead.0 x y c lead.2 one)

pub led_call : (home : Home) → IsDesk home.desks home.desk → (a : NodeValue Memory) (s : Service)
    (event : DeskEvent) → EventHolds IsInFrame home.desks event → Led home a s
    → Led home a (call home event s)
unfolding call
led_call home ours a s event fine l =
    subst (λ (r : Reply). Led home a (answered s event r)) (sym same)
    (go (step home.desks home.desk l.node.desk event) refl)
  where
    here : Seen
    here = record { desk = l.node.desk; is_down = false; told = l.node.told }

    seen_is : s.seen ≡ here
    seen_is =
        let up = l.works.up in
        l.seen ∙ (λ i. record { desk = l.node.desk; is_down = up i; told = l.node.told })

    same : reply home s.seen event (first_fate s.fates)
        ≡ by_step home event here (step home.desks home.desk l.node.desk event)
    same =
        ap (λ z. reply home z event (first_fate s.fates)) seen_is
        ∙ ap (λ z. reply home here event (first_fate z)) l.fates

    go : (r : Result Done Refusal) → step home.desks home.desk l.node.desk event ≡ r
        → Led home a (answered s event (by_step home event here r))
    go (Ok r) is =
        let holds = subst (λ z. DoneHolds IsInFrame home.desks z) is
        (step_holds IsInFrame home.desks home.desk l.node.desk event ours l.holds fine) in
        let range = subst (λ z. DoneIsInRange home.desks home.desk z) is
        (step_in_range home.desks home.desk l.node.desk event ours l.range) in
        let made = subst (λ (h : Home). IsDesk h.desks h.desk → DeskIsInRange h.desks l.node.desk
        → MessagesHold IsInFrame (IsMade h.desks) r.messages
        → step h.desks h.desk l.node.desk event ≡ Ok r
        → Handles memory l.node event (Ok r.messages) (node_after l.node event r)) l.at
        (λ o q m i. takes l.node event r i o q m l.works) ours l.range holds.1 is in
        record {
          node = node_after l.node event r;
          lead =
              subst (λ z. Lead (Handles memory) a z (node_after l.node event r))
              (sym (calls_both s.done (Called event (Ok r.messages) ∷ [])))
              (lead_more (calls_of s.done) a l.node (node_after l.node event r)
              (record { event = event; answer = Ok r.messages }) l.lead made);
          seen =
              let at = l.at in
              λ i. record {
                desk = r.desk;
                is_down = false;
                told = told_by (sym at i) event l.node.told;
              };
          works = record { up = refl; stored = refl; log = refl };
          at = l.at;
          holds = holds.0;
          range = range.0;
          fates = ap (λ z. later_fates z) l.fates;
          quiet =
              subst (λ z. NoDown z) (sym (calls_both s.done (Called event (Ok r.messages) ∷ [])))
              (quiet_more (calls_of s.done) (record { event = event; answer = Ok r.messages })
              l.quiet (λ no. no_fault no));
        }
    go (Err why) is =
        let made = subst (λ (h : Home). step h.desks h.desk l.node.desk event ≡ Err why
        → Handles memory l.node event (Err (refused_as why)) l.node) l.at
        (λ i. refuses l.node event why i l.works) is in
        record {
          node = l.node;
          lead =
              subst (λ z. Lead (Handles memory) a z l.node)
              (sym (calls_both s.done (Called event (Err (refused_as why)) ∷ [])))
              (lead_more (calls_of s.done) a l.node l.node
              (record { event = event; answer = Err (refused_as why) }) l.lead made);
          seen = sym seen_is ∙ l.seen;
          works = l.works;
          at = l.at;
          holds = l.holds;
          range = l.range;
          fates = ap (λ z. later_fates z) l.fates;
          quiet =
              subst (λ z. NoDown z)
              (sym (calls_both s.done (Called event (Err (refused_as why)) ∷ [])))
              (quiet_more (calls_of s.done)
              (record { event = event; answer = Err (refused_as why) }) l.quiet
              (λ no. not_down why (let q = no in cc)));
        }

-- what is pushed, or answered, is no call
pub led_quiet : (home : Home) (a : NodeValue Memory) (s : Service) (acts : List Act)
    → calls_of acts ≡ [] → Led home a s → Led home a (record {
      seen = s.seen;
      waiting = [];
      done = s.done ++ acts;
      fates = s.fates;
    })
led_quiet home a s acts none l = record {
  node = l.node;
  lead = subst (λ z. Lead (Handles memory) a z l.node) (sym (no_calls s.done acts none)) l.lead;
  seen = l.seen;
  works = l.works;
  at = l.at;
  holds = l.holds;
  range = l.range;
  fates = l.fates;
  quiet = subst (λ z. NoDown z) (sym (no_calls s.done acts none)) l.quiet;
}
