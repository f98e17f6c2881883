-- A connection is begun, opened, or over.
use Rattle.std.proofs.Common.{◌≡◌, inl, inr, refl, sym, ap, subst, ◌∙◌, ◌⊎◌, ℕ, zero, suc, ◌+◌, ◌<◌}
use Rattle.std.proofs.Common.{◌≤◌, List, [], ◌∷◌, ◌++◌, length, take, drop, arith, true, false}
use Rattle.std.proofs.Common.{Bool, length-drop, ◌*◌, min, nat_le, ◌||◌, if◌then◌else◌}
use Rattle.std.proofs.lemmas.List.{take-append-drop}
use Rattle.std.proofs.lemmas.Bool.{leb-true, ltb-true, Decides.eqb_tells}
use Rattle.links.{specs.declared.stages.LinkStage.LinkStage, proofs.Orders.order_all}
use Rattle.links.specs.Links.{LinkState, frames_on, opened_at, failed_at, after_ended, with_stage}
use Rattle.links.specs.Links.{IsUnconnected, after_began, after_opened, after_failed, after_closed}
use Rattle.links.specs.Links.{first_of, has_room, has_some, reached, broken, spent_at, closed_at}
use Rattle.links.specs.Histories.{Full, Unreachable, NoMemory, Dropped, Told, waiting_of, IsFrontOf}
use Rattle.links.specs.Histories.{IsCut, History, Then, Began, Opened, Failed, Ended, Closed}
use Rattle.links.specs.Histories.{written, connections, failures, AreInOrder}
use Rattle.links.proofs.Fates.{settle_all, frames_all, waiting_all, same_all}
use Rattle.links.proofs.{Orders.order_next, Cuts.cut_all, Cuts.cut_now, Cuts.count_all}
use Rattle.links.proofs.Keeping.{Holds, Same, Past, Now, past_as, front_of, none_begun, no_front}
use Rattle.links.proofs.Keeping.{joined, SameTold, as_next}
use Rattle.links.specs.declared.stages.LinkStage.TheVariants as stage

-- where there is no connection, the last one is over
next_is_past : (stage : LinkStage) (n : ℕ) (bytes front : List ℕ) (ts : List Told)
    → IsUnconnected stage
    → Now stage n bytes front ts → Past bytes n ts
next_is_past stage.Closed n bytes front ts free h = h
next_is_past (stage.Paused since millis) n bytes front ts free h = h
next_is_past (stage.Opening since) n bytes front ts free h = absurd free
next_is_past (stage.Open frames quiet) n bytes front ts free h = absurd free

unconnected_shut : (stage : LinkStage) → IsUnconnected stage → has_room stage ≡ false
unconnected_shut stage.Closed free = refl
unconnected_shut (stage.Paused since millis) free = refl
unconnected_shut (stage.Opening since) free = absurd free
unconnected_shut (stage.Open frames quiet) free = absurd free

each_began : (h : History) (s : LinkState) (ts : List Told) (now : ℕ) → Holds h s ts
    → IsUnconnected s.stage → (n : ℕ) → (n ≡ connections h + 1 → ⊥) → Past (written n h) n ts
each_began h s ts now a free n other =
    elim (eqb_tells n (connections h)) [
      | inl e ↦
          subst (λ z. Past (written z h) z ts) (sym e.1)
          (next_is_past s.stage (connections h) (written (connections h) h) (front_of s) ts free
          a.now)
      | inr e ↦ a.each n e.1
    ]

pub begins : (h : History) (s : LinkState) (ts : List Told) (now : ℕ) → Holds h s ts
    → IsUnconnected s.stage → Holds (Then h (Began now)) (after_began s now) ts
begins h s ts now a free =
    let none = none_begun s a.sound (unconnected_shut s.stage free) in
    record {
      all = a.all;
      waits = a.waits;
      ordered = order_next (connections h) ts a.ordered;
      sound = record {
        few = a.sound.few;
        sends = λ some. absurd (omega (arith, some, none));
        part = λ some. absurd (omega (arith, some, none));
        frames = omega arith;
        holds = omega arith;
        pause = a.sound.pause;
      };
      causes = record { full = a.causes.full; memory = a.causes.memory; failed = a.causes.failed };
      each = each_began h s ts now a free;
      fresh = λ n later. a.fresh n (omega (arith, later));
      now = a.fresh (connections h + 1) (omega arith);
    }

-- ---- it is open

opened_told : (h : History) (now : ℕ) → SameTold h (Then h (Opened now))
opened_told h now = record {
  pushed = refl;
  connections = refl;
  written = λ n. refl;
  full = refl;
  memory = refl;
  failures = λ e. e;
}

reaches : (h : History) (s : LinkState) (ts : List Told) (since now : ℕ) → Holds h s ts
    → s.stage ≡ stage.Opening since → Holds h (reached s now) ts
reaches h s ts since now a is =
    let none = none_begun s a.sound (ap (λ z. has_room z) is) in
    let opening =
    subst (λ z. Now z (connections h) (written (connections h) h) (front_of s) ts) is a.now in
    record {
      all = a.all;
      waits = a.waits;
      ordered = a.ordered;
      sound = record {
        few = a.sound.few;
        sends = λ some. absurd (omega (arith, some, none));
        part = λ some. absurd (omega (arith, some, none));
        frames = omega arith;
        holds = omega arith;
        pause = omega arith;
      };
      causes = a.causes;
      each = a.each;
      fresh = a.fresh;
      now = (
        opening.0
            ∙ sym (ap (λ z. joined z ++ front_of s) opening.1 ∙ no_front s.begun s.waiting none),
        ap (λ z. length z) opening.1,
      );
    }

opens_at : (at : LinkStage) (h : History) (s : LinkState) (ts : List Told) (now : ℕ) → Holds h s ts
    → s.stage ≡ at → Holds h (opened_at at s now) ts
opens_at (stage.Opening since) h s ts now a is = reaches h s ts since now a is
opens_at _ h s ts now a is = a

pub opens : (h : History) (s : LinkState) (ts : List Told) (now : ℕ) → Holds h s ts
    → Holds (Then h (Opened now)) (after_opened s now) ts
opens h s ts now a =
    opens_at s.stage (Then h (Opened now)) s ts now
    (as_next h (Then h (Opened now)) s ts (opened_told h now) a) refl

-- ---- it failed

pub front_is_front : (begun : ℕ) (f : List ℕ) → begun < length f → IsFrontOf (take begun f) f
front_is_front begun f less = (
  drop begun f,
  omega (arith, length-drop begun f, less),
  sym (take-append-drop begun f),
)

-- what was sent of the first frame is nothing, or that frame is cut off
cut_off : (count n : ℕ) (fs : List (List ℕ)) (begun : ℕ) (ts : List Told)
    → AreInOrder count ts
    → (0 < begun → begun < length (first_of fs)) → waiting_of ts ≡ fs
    → (take begun (first_of fs) ≡ [])
    ⊎ IsCut n (take begun (first_of fs)) (settle_all (Dropped Unreachable) ts)
cut_off count n fs zero ts order part is = inl refl
cut_off count n [] (suc k) ts order part is = inl refl
cut_off count n (f ∷ fs) (suc k) ts order part is =
    inr (
    cut_now count n (take (suc k) f) ts f fs (front_is_front (suc k) f (part (omega arith))) order
    is
    )

same_dropped : (ts : List Told) → Same ts (settle_all (Dropped Unreachable) ts)
same_dropped ts = record {
  sent = λ n. same_all n (Dropped Unreachable) ts (λ x. refl);
  cut = λ n part e. cut_all n part (Dropped Unreachable) ts (λ x. refl) e;
}

-- the last connection is over
over : (at : LinkStage) (n : ℕ) (bytes front : List ℕ) (ts us : List Told) → Same ts us
    → frames_on at ≤ 63 → (front ≡ []) ⊎ IsCut n front us → Now at n bytes front ts
    → Past bytes n us
over stage.Closed n bytes front ts us same most cut h = past_as bytes n ts us same h
over (stage.Paused since millis) n bytes front ts us same most cut h = past_as bytes n ts us same h
over (stage.Opening since) n bytes front ts us same most cut h = record {
  part = [];
  is = h.0 ∙ ap (λ z. joined z ++ []) (sym (same.sent n ∙ h.1));
  rest = inl refl;
  most = let e = ap (λ z. length z) (same.sent n ∙ h.1) in omega (arith, e);
}
over (stage.Open frames quiet) n bytes front ts us same most cut h = record {
  part = front;
  is = h.0 ∙ ap (λ z. joined z ++ front) (sym (same.sent n));
  rest = cut;
  most = let e = ap (λ z. length z) (same.sent n) ∙ h.1 in omega (arith, e, most);
}

min_most : (n : ℕ) → min n 1000 ≤ 1000
min_most n = omega arith

breaks : (k : History) (s : LinkState) (ts : List Told) (now : ℕ) → Holds k s ts
    → (failures k ≡ 0 → ⊥) → Holds k (broken s now) (settle_all (Dropped Unreachable) ts)
breaks k s ts now a fails =
    let same = same_dropped ts in
    record {
      all = frames_all (Dropped Unreachable) ts ∙ a.all;
      waits = waiting_all (Dropped Unreachable) ts (λ x. refl);
      ordered =
          order_all (connections k) (Dropped Unreachable) ts (λ zs e. tt) (λ n x. refl) a.ordered;
      sound = record {
        few = omega arith;
        sends = λ some. absurd (omega (arith, some));
        part = λ some. absurd (omega (arith, some));
        frames = omega arith;
        holds = a.sound.pause;
        pause = min_most (s.pause * 2);
      };
      causes = record {
        full = count_all Full (Dropped Unreachable) ts refl ∙ a.causes.full;
        memory = count_all NoMemory (Dropped Unreachable) ts refl ∙ a.causes.memory;
        failed = λ e. absurd (fails e);
      };
      each = λ n other.
          past_as (written n k) n ts (settle_all (Dropped Unreachable) ts) same (a.each n other);
      fresh = λ n later. ((a.fresh n later).0, same.sent n ∙ (a.fresh n later).1);
      now =
          over s.stage (connections k) (written (connections k) k) (front_of s) ts
          (settle_all (Dropped Unreachable) ts) same a.sound.frames
          (cut_off (connections k) (connections k) s.waiting s.begun ts a.ordered a.sound.part
          a.waits) a.now;
    }

fails_at : (at : LinkStage) (k : History) (s : LinkState) (ts : List Told) (now : ℕ) → Holds k s ts
    → (failures k ≡ 0 → ⊥) → (us : List Told) × Holds k (failed_at at s now) us
fails_at stage.Closed k s ts now a fails = (ts, a)
fails_at (stage.Paused since millis) k s ts now a fails = (ts, a)
fails_at (stage.Opening since) k s ts now a fails =
    (settle_all (Dropped Unreachable) ts, breaks k s ts now a fails)
fails_at (stage.Open frames quiet) k s ts now a fails =
    (settle_all (Dropped Unreachable) ts, breaks k s ts now a fails)

failed_told : (h : History) (now : ℕ) → SameTold h (Then h (Failed now))
failed_told h now = record {
  pushed = refl;
  connections = refl;
  written = λ n. refl;
  full = refl;
  memory = refl;
  failures = λ e. absurd (omega (arith, e));
}

pub fails : (h : History) (s : LinkState) (ts : List Told) (now : ℕ) → Holds h s ts
    → (us : List Told) × Holds (Then h (Failed now)) (after_failed s now) us
fails h s ts now a =
    fails_at s.stage (Then h (Failed now)) s ts now
    (as_next h (Then h (Failed now)) s ts (failed_told h now) a) (λ e. omega (arith, e))

-- ---- it is closed, with nothing of a frame begun

shuts : (k : History) (s : LinkState) (ts : List Told) → Holds k s ts → s.begun ≡ 0
    → Holds k (with_stage s stage.Closed) ts
shuts k s ts a none = record {
  all = a.all;
  waits = a.waits;
  ordered = a.ordered;
  sound = record {
    few = a.sound.few;
    sends = λ some. absurd (omega (arith, some, none));
    part = λ some. absurd (omega (arith, some, none));
    frames = omega arith;
    holds = omega arith;
    pause = a.sound.pause;
  };
  causes = a.causes;
  each = a.each;
  fresh = a.fresh;
  now =
      over s.stage (connections k) (written (connections k) k) (front_of s) ts ts
      (record { sent = λ n. refl; cut = λ n part e. e }) a.sound.frames
      (inl (no_front s.begun s.waiting none)) a.now;
}

closes_at : (at : LinkStage) (k : History) (s : LinkState) (ts : List Told) → Holds k s ts
    → s.begun ≡ 0
    → Holds k (closed_at at s) ts
closes_at stage.Closed k s ts a none = a
closes_at (stage.Paused since millis) k s ts a none = a
closes_at (stage.Opening since) k s ts a none = shuts k s ts a none
closes_at (stage.Open frames quiet) k s ts a none = shuts k s ts a none

closed_told : (h : History) → SameTold h (Then h Closed)
closed_told h = record {
  pushed = refl;
  connections = refl;
  written = λ n. refl;
  full = refl;
  memory = refl;
  failures = λ e. e;
}

pub closes : (h : History) (s : LinkState) (ts : List Told) → Holds h s ts → s.begun ≡ 0
    → Holds (Then h Closed) (after_closed s) ts
closes h s ts a none =
    closes_at s.stage (Then h Closed) s ts (as_next h (Then h Closed) s ts (closed_told h) a) none

-- ---- the other side ends it

-- where nothing more was to be sent, nothing is begun
spent_none : (at : LinkStage) (fs : List (List ℕ)) (begun : ℕ) → (0 < begun → has_room at ≡ true)
    → (0 < begun → begun < length (first_of fs)) → spent_at at (has_some fs) ≡ true → begun ≡ 0
spent_none at fs zero sends part spent = refl
spent_none at [] (suc k) sends part spent = let e = part (omega arith) in absurd (omega (arith, e))
spent_none stage.Closed (f ∷ fs) (suc k) sends part spent = let e = sends (omega arith) in cc
spent_none (stage.Paused since millis) (f ∷ fs) (suc k) sends part spent =
    let e = sends (omega arith) in cc
spent_none (stage.Opening since) (f ∷ fs) (suc k) sends part spent =
    let e = sends (omega arith) in cc
spent_none (stage.Open frames quiet) (f ∷ fs) (suc k) sends part spent =
    let few = ltb-true frames 63 (sends (omega arith)) in
    let many = leb-true 63 frames (sym (or-false (nat_le 63 frames)) ∙ spent) in
    absurd (omega (arith, few, many))
  where
    or-false : (b : Bool) → (b || false) ≡ b
    or-false true = refl
    or-false false = refl

ends_at : (spent : Bool) (k : History) (s : LinkState) (ts : List Told) (now : ℕ) → Holds k s ts
    → (failures k ≡ 0 → ⊥) → spent_at s.stage (has_some s.waiting) ≡ spent
    → (us : List Told)
    × Holds k (if spent then with_stage s stage.Closed else after_failed s now) us
ends_at true k s ts now a fails is =
    (ts, shuts k s ts a (spent_none s.stage s.waiting s.begun a.sound.sends a.sound.part is))
ends_at false k s ts now a fails is = fails_at s.stage k s ts now a fails

ended_told : (h : History) (now : ℕ) → SameTold h (Then h (Ended now))
ended_told h now = record {
  pushed = refl;
  connections = refl;
  written = λ n. refl;
  full = refl;
  memory = refl;
  failures = λ e. absurd (omega (arith, e));
}

pub ends : (h : History) (s : LinkState) (ts : List Told) (now : ℕ) → Holds h s ts
    → (us : List Told) × Holds (Then h (Ended now)) (after_ended s now) us
ends h s ts now a =
    ends_at (spent_at s.stage (has_some s.waiting)) (Then h (Ended now)) s ts now
    (as_next h (Then h (Ended now)) s ts (ended_told h now) a) (λ e. omega (arith, e)) refl
