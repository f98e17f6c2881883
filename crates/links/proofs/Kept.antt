-- What holds after every history.
use Rattle.std.proofs.Common.{◌≡◌, inl, inr, refl, sym, ap, subst, ◌∙◌, ◌⊎◌, ℕ, ◌<◌, ◌≤◌, suc, zero}
use Rattle.std.proofs.Common.{List, [], ◌++◌, length, take, arith}
use Rattle.std.proofs.lemmas.Bool.Decides.{eqb_tells}
use Rattle.links.specs.declared.stages.LinkStage.{LinkStage}
use Rattle.links.specs.Links.{LinkState, IsSound, first_of, frames_on, new_link}
use Rattle.links.specs.Histories.{Told, IsFrontOf, IsCut, IsRest, Carries, Step, Steps, History}
use Rattle.links.specs.Histories.{Start, Then, Push, Began, Opened, Sent, Failed, Ended, Closed}
use Rattle.links.specs.Histories.{Leads, connections, written, FramesAreKept}
use Rattle.links.proofs.Keeping.{Holds, Past, Now, front_of, joined}
use Rattle.links.proofs.{Pushes.pushes, Sendings.sends}
use Rattle.links.proofs.Endings.{begins, opens, fails, ends, closes, front_is_front}
use Rattle.links.specs.declared.stages.LinkStage.TheVariants as stage

at_start : Holds Start new_link []
at_start = record {
  all = refl;
  waits = refl;
  ordered = tt;
  sound = record {
    few = omega arith;
    sends = λ some. absurd (omega (arith, some));
    part = λ some. absurd (omega (arith, some));
    frames = omega arith;
    holds = omega arith;
    pause = omega arith;
  };
  causes = record { full = refl; memory = refl; failed = λ e. refl };
  each = λ n other. record { part = []; is = refl; rest = inl refl; most = omega arith };
  fresh = λ n later. (refl, refl);
  now = record { part = []; is = refl; rest = inl refl; most = omega arith };
}

step_holds : (t : Step) (h : History) (s u : LinkState) (ts : List Told) → Holds h s ts
    → Steps t s u
    → (us : List Told) × Holds (Then h t) u us
step_holds (Push frame answer) h s u ts a k = pushes answer h s u ts frame a k
step_holds (Began now) h s u ts a k =
    (ts, subst (λ z. Holds (Then h (Began now)) z ts) (sym k.1) (begins h s ts now a k.0))
step_holds (Opened now) h s u ts a k =
    (ts, subst (λ z. Holds (Then h (Opened now)) z ts) (sym k) (opens h s ts now a))
step_holds (Sent now bytes) h s u ts a k =
    let e = sends h s ts now bytes k.0.0 a k.0.1 in
    (e.0, subst (λ z. Holds (Then h (Sent now bytes)) z e.0) (sym k.1) e.1)
step_holds (Failed now) h s u ts a k =
    let e = fails h s ts now a in
    (e.0, subst (λ z. Holds (Then h (Failed now)) z e.0) (sym k) e.1)
step_holds (Ended now) h s u ts a k =
    let e = ends h s ts now a in
    (e.0, subst (λ z. Holds (Then h (Ended now)) z e.0) (sym k) e.1)
step_holds Closed h s u ts a k =
    (ts, subst (λ z. Holds (Then h Closed) z ts) (sym k.1) (closes h s ts a k.0))

pub all_hold : (h : History) (s : LinkState) → Leads h s → (ts : List Told) × Holds h s ts
all_hold Start s is = ([], subst (λ z. Holds Start z []) (sym is) at_start)
all_hold (Then h t) s k =
    let before = all_hold h k.0 k.1 in step_holds t h k.0 s before.0 before.1 k.2

-- ---- what a connection carries

past_rest : (n : ℕ) (part : List ℕ) (ts : List Told) (h : History) (s : LinkState)
    → (part ≡ []) ⊎ IsCut n part ts → IsRest n part ts h s
past_rest n part ts h s (inl e) = inl e
past_rest n part ts h s (inr e) = inr (inl e)

past_carries : (n : ℕ) (h : History) (s : LinkState) (ts : List Told) → Past (written n h) n ts
    → Carries n h s ts
past_carries n h s ts p = record {
  part = p.part;
  bytes = p.is;
  rest = past_rest n p.part ts h s p.rest;
  most = p.most;
}

open_rest : (begun : ℕ) (fs : List (List ℕ)) → (0 < begun → begun < length (first_of fs))
    → (take begun (first_of fs) ≡ []) ⊎ IsFrontOf (take begun (first_of fs)) (first_of fs)
open_rest zero fs part = inl refl
open_rest (suc k) fs part = inr (front_is_front (suc k) (first_of fs) (part (omega arith)))

rest_now : (h : History) (s : LinkState) (ts : List Told) (part : List ℕ)
    → (part ≡ []) ⊎ IsFrontOf part (first_of s.waiting) → IsRest (connections h) part ts h s
rest_now h s ts part (inl e) = inl e
rest_now h s ts part (inr e) = inr (inr (refl, e))

now_carries : (at : LinkStage) (h : History) (s : LinkState) (ts : List Told) → IsSound s
    → frames_on at ≤ 63 → Now at (connections h) (written (connections h) h) (front_of s) ts
    → Carries (connections h) h s ts
now_carries stage.Closed h s ts sound most a = past_carries (connections h) h s ts a
now_carries (stage.Paused since millis) h s ts sound most a =
    past_carries (connections h) h s ts a
now_carries (stage.Opening since) h s ts sound most a = record {
  part = [];
  bytes = a.0 ∙ ap (λ z. joined z ++ []) (sym a.1);
  rest = inl refl;
  most = let e = ap (λ z. length z) a.1 in omega (arith, e);
}
now_carries (stage.Open frames quiet) h s ts sound most a = record {
  part = front_of s;
  bytes = a.0;
  rest = rest_now h s ts (front_of s) (open_rest s.begun s.waiting sound.part);
  most = let e = a.1 in omega (arith, e, most);
}

carries : (n : ℕ) (h : History) (s : LinkState) (ts : List Told) → Holds h s ts → Carries n h s ts
carries n h s ts a =
    elim (eqb_tells n (connections h)) [
      | inl e ↦
          subst (λ z. Carries z h s ts) (sym e.1)
          (now_carries s.stage h s ts a.sound a.sound.frames a.now)
      | inr e ↦ past_carries n h s ts (a.each n e.1)
    ]

pub frames_are_kept : FramesAreKept
frames_are_kept h s leads =
    let all = all_hold h s leads in
    let a = all.1 in (
      all.0,
      record {
        all = a.all;
        waits = a.waits;
        few = a.sound.few;
        order = a.ordered;
        carried = λ n. carries n h s all.0 a;
        causes = a.causes;
      },
    )
