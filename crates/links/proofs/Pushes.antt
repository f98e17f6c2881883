-- A frame is pushed.
use Rattle.std.proofs.Common.{◌≡◌, refl, sym, ap, subst, ◌∙◌, ℕ, zero, suc, ◌+◌, ◌<◌, List, [], ◌∷◌}
use Rattle.std.proofs.Common.{◌++◌, length, take, drop, arith, length-append, if◌then◌else◌}
use Rattle.std.{proofs.lemmas.Bool.lt-ltb, specs.List.remove, proofs.lemmas.List.append-nil}
use Rattle.links.{specs.declared.stages.PushOutcome.PushOutcome, proofs.Orders.order_second}
use Rattle.links.specs.Links.{LinkState, IsSound, Pushes, first_of, oldest_at, with_waiting}
use Rattle.links.specs.Histories.{Cause, Full, Unreachable, NoMemory, Fate, Dropped, Waits, Told}
use Rattle.links.specs.Histories.{told, frames_of, if_waits, waiting_of, if_sent_on, dropped_for}
use Rattle.links.specs.Histories.{if_dropped, History, Then, Push, says, connections, written}
use Rattle.links.{specs.Histories.OrderAt, specs.Histories.AreInOrder, proofs.Orders.order_more}
use Rattle.links.proofs.Fates.{settle_first, settle_second, frames_first, frames_second}
use Rattle.links.proofs.Fates.{frames_more, waiting_first, waiting_second, waiting_more, same_first}
use Rattle.links.proofs.{Fates.same_second, Fates.sent_more, Orders.order_first, Cuts.count_more}
use Rattle.links.proofs.Cuts.{cut_first, cut_second, cut_more, count_first, count_second}
use Rattle.links.proofs.Keeping.{Holds, Same, same_both, past_as, now_as, front_of, Now}
use Rattle.links.specs.declared.stages.PushOutcome.TheVariants as push

-- one more frame with a fate that is no sending
same_more : (ts : List Told) (frame : List ℕ) (f : Fate) → ((n : ℕ) → if_sent_on n f frame ≡ [])
    → Same ts (ts ++ told frame f ∷ [])
same_more ts frame f none = record {
  sent = λ n. sent_more n ts frame f (none n);
  cut = λ n part h. cut_more n part ts frame f (none n) h;
}

-- the push of a frame, where the frames told before get other fates first
pushes_to : (h : History) (s t : LinkState) (ts us : List Told) (frame : List ℕ)
    (answer : PushOutcome)
    (f : Fate) → Holds h s ts → Same ts us → frames_of us ≡ frames_of ts
    → AreInOrder (connections h) us → OrderAt (connections h) f []
    → ((n : ℕ) → if_sent_on n f frame ≡ [])
    → t.waiting ≡ waiting_of us ++ if_waits f frame → t.stage ≡ s.stage → front_of t ≡ front_of s
    → IsSound t
    → dropped_for Full us + if_dropped Full f ≡ dropped_for Full ts + says Full answer
    → dropped_for NoMemory us + if_dropped NoMemory f
    ≡ dropped_for NoMemory ts + says NoMemory answer
    → dropped_for Unreachable us + if_dropped Unreachable f ≡ dropped_for Unreachable ts
    → Holds (Then h (Push frame answer)) t (us ++ told frame f ∷ [])
pushes_to h s t ts us frame answer f a same frames order alone none waits stage front sound full
    memory failed =
    let whole = same_both ts us (us ++ told frame f ∷ []) same (same_more us frame f none) in
    record {
      all = frames_more us frame f ∙ ap (λ z. z ++ frame ∷ []) (frames ∙ a.all);
      waits = waiting_more us frame f ∙ sym waits;
      ordered = order_more (connections h) us frame f alone none order;
      sound = sound;
      causes = record {
        full = count_more Full us frame f ∙ full ∙ ap (λ z. z + says Full answer) a.causes.full;
        memory =
            count_more NoMemory us frame f ∙ memory
            ∙ ap (λ z. z + says NoMemory answer) a.causes.memory;
        failed = λ e. count_more Unreachable us frame f ∙ failed ∙ a.causes.failed e;
      };
      each = λ n other. past_as _ n ts _ whole (a.each n other);
      fresh = λ n later. ((a.fresh n later).0, whole.sent n ∙ (a.fresh n later).1);
      now =
          subst (λ z. Now z (connections h) (written (connections h) h) (front_of t)
          (us ++ told frame f ∷ [])) (sym stage)
          (now_as s.stage (connections h) (written (connections h) h) (front_of s) (front_of t) ts
          (us ++ told frame f ∷ []) whole front a.now);
    }

-- ---- it waits

front_more : (fs : List (List ℕ)) (begun : ℕ) (x : List ℕ)
    → (0 < begun → begun < length (first_of fs))
    → take begun (first_of (fs ++ x ∷ [])) ≡ take begun (first_of fs)
front_more [] zero x h = refl
front_more [] (suc k) x h = let e = h (omega arith) in absurd (omega (arith, e))
front_more (f ∷ fs) begun x h = refl

first_more : (fs : List (List ℕ)) (begun : ℕ) (x : List ℕ)
    → (0 < begun → begun < length (first_of fs)) → 0 < begun
    → begun < length (first_of (fs ++ x ∷ []))
first_more [] begun x h some = let e = h some in absurd (omega (arith, e))
first_more (f ∷ fs) begun x h some = h some

sound_more : (s : LinkState) (frame : List ℕ) → IsSound s → length s.waiting < 256
    → IsSound (with_waiting s (s.waiting ++ frame ∷ []))
sound_more s frame a few = record {
  few = omega (arith, few, length-append s.waiting (frame ∷ []));
  sends = a.sends;
  part = first_more s.waiting s.begun frame a.part;
  frames = a.frames;
  holds = a.holds;
  pause = a.pause;
}

waits_more : (h : History) (s : LinkState) (ts : List Told) (frame : List ℕ) → Holds h s ts
    → length s.waiting < 256
    → Holds (Then h (Push frame push.Waits)) (with_waiting s (s.waiting ++ frame ∷ []))
    (ts ++ told frame Waits ∷ [])
waits_more h s ts frame a few =
    pushes_to h s (with_waiting s (s.waiting ++ frame ∷ [])) ts ts frame push.Waits Waits a
    (record { sent = λ n. refl; cut = λ n part e. e }) refl a.ordered (λ n. refl) (λ n. refl)
    (ap (λ z. z ++ frame ∷ []) (sym a.waits)) refl (front_more s.waiting s.begun frame a.sound.part)
    (sound_more s frame a.sound few) (omega arith) (omega arith) (omega arith)

-- ---- memory is refused

refused_more : (h : History) (s : LinkState) (ts : List Told) (frame : List ℕ) → Holds h s ts
    → Holds (Then h (Push frame push.NoMemory)) s (ts ++ told frame (Dropped NoMemory) ∷ [])
refused_more h s ts frame a =
    pushes_to h s s ts ts frame push.NoMemory (Dropped NoMemory) a
    (record { sent = λ n. refl; cut = λ n part e. e }) refl a.ordered tt (λ n. refl)
    (sym a.waits ∙ sym (append-nil (waiting_of ts))) refl refl a.sound (omega arith) (omega arith)
    (omega arith)

-- ---- the oldest goes

record TwoOf (fs : List (List ℕ)) : Type 0 where
  v : List ℕ
  w : List ℕ
  ws : List (List ℕ)
  is : fs ≡ v ∷ w ∷ ws

two_of : (fs : List (List ℕ)) → length fs ≡ 256 → TwoOf fs
two_of [] e = absurd (omega (arith, e))
two_of (v ∷ []) e = absurd (omega (arith, e))
two_of (v ∷ w ∷ ws) e = record { v = v; w = w; ws = ws; is = refl }

-- after a frame begun, the oldest of which nothing was sent is the second
second_goes : (k : ℕ) → oldest_at (suc k) ≡ 1
second_goes k = ap (λ z. if z then 1 else 0) (lt-ltb 0 (suc k) (omega arith))

-- the frame that goes is the first, or the second
record Goes (count : ℕ) (fs : List (List ℕ)) (begun : ℕ) (ts us : List Told) : Type 0 where
  same : Same ts us
  frames : frames_of us ≡ frames_of ts
  order : AreInOrder count us
  waits : waiting_of us ≡ remove fs (oldest_at begun)
  counts : (c : Cause) → dropped_for c us ≡ dropped_for c ts + if_dropped c (Dropped Full)

goes : (count : ℕ) (fs : List (List ℕ)) (begun : ℕ) (ts : List Told) → TwoOf fs → waiting_of ts ≡ fs
    → AreInOrder count ts
    → (us : List Told) × Goes count fs begun ts us
goes count fs zero ts two is order = (
  settle_first (Dropped Full) ts,
  record {
    same = record {
      sent = λ n. same_first n (Dropped Full) ts (λ x. refl);
      cut = λ n part e. cut_first n part (Dropped Full) ts (λ x. refl) e;
    };
    frames = frames_first (Dropped Full) ts;
    order = order_first count (Dropped Full) ts (λ zs e. tt) (λ n less x. refl) order;
    waits = waiting_first (Dropped Full) ts (λ x. refl) ∙ ap (λ z. drop 1 z) is;
    counts = λ c. count_first c (Dropped Full) ts two.v (two.w ∷ two.ws) (is ∙ two.is);
  },
)
goes count fs (suc k) ts two is order = (
  settle_second (Dropped Full) ts,
  record {
    same = record {
      sent = λ n. same_second n (Dropped Full) ts (λ x. refl);
      cut = λ n part e. cut_second n part (Dropped Full) ts (λ x. refl) e;
    };
    frames = frames_second (Dropped Full) ts;
    order = order_second count (Dropped Full) ts (λ zs e. tt) (λ n x. refl) order;
    waits = waiting_second (Dropped Full) ts (λ x. refl) ∙ ap (λ z. remove z 1) is
        ∙ ap (λ z. remove fs z) (sym (second_goes k));
    counts = λ c. count_second c (Dropped Full) ts two.v two.w two.ws (is ∙ two.is);
  },
)

-- the frame begun stays the first
kept_first : (fs : List (List ℕ)) (begun : ℕ) (x : List ℕ) → TwoOf fs
    → take begun (first_of (remove fs (oldest_at begun) ++ x ∷ [])) ≡ take begun (first_of fs)
kept_first fs zero x two = refl
kept_first fs (suc k) x two =
    subst (λ z. take (suc k) (first_of (remove fs z ++ x ∷ [])) ≡ take (suc k) (first_of fs))
    (sym (second_goes k))
    (subst (λ z. take (suc k) (first_of (remove z 1 ++ x ∷ [])) ≡ take (suc k) (first_of z))
    (sym two.is) refl)

kept_part : (fs : List (List ℕ)) (begun : ℕ) (x : List ℕ) → TwoOf fs
    → (0 < begun → begun < length (first_of fs)) → 0 < begun
    → begun < length (first_of (remove fs (oldest_at begun) ++ x ∷ []))
kept_part fs zero x two h some = absurd (omega (arith, some))
kept_part fs (suc k) x two h some =
    subst (λ z. suc k < length (first_of (remove fs z ++ x ∷ []))) (sym (second_goes k))
    (subst (λ z. suc k < length (first_of (remove z 1 ++ x ∷ []))) (sym two.is)
    (subst (λ z. suc k < length (first_of z)) two.is (h some)))

as_many : (fs : List (List ℕ)) (begun : ℕ) (x : List ℕ) → TwoOf fs
    → length (remove fs (oldest_at begun) ++ x ∷ []) ≡ length fs
as_many fs zero x two =
    subst (λ z. length (remove z 0 ++ x ∷ []) ≡ length z) (sym two.is)
    (omega (arith, length-append two.ws (x ∷ [])))
as_many fs (suc k) x two =
    subst (λ z. length (remove fs z ++ x ∷ []) ≡ length fs) (sym (second_goes k))
    (subst (λ z. length (remove z 1 ++ x ∷ []) ≡ length z) (sym two.is)
    (omega (arith, length-append two.ws (x ∷ []))))

oldest_goes : (h : History) (s : LinkState) (ts : List Told) (frame : List ℕ) → Holds h s ts
    → length s.waiting ≡ 256
    → (us : List Told) × Holds (Then h (Push frame push.DroppedOldest))
    (with_waiting s (remove s.waiting (oldest_at s.begun) ++ frame ∷ [])) us
oldest_goes h s ts frame a full =
    let two = two_of s.waiting full in
    let gone = goes (connections h) s.waiting s.begun ts two a.waits a.ordered in
    let many = as_many s.waiting s.begun frame two in
    let g = gone.1 in (
      gone.0 ++ told frame Waits ∷ [],
      pushes_to h s (with_waiting s (remove s.waiting (oldest_at s.begun) ++ frame ∷ [])) ts gone.0
          frame push.DroppedOldest Waits a g.same g.frames g.order (λ n. refl) (λ n. refl)
          (ap (λ z. z ++ frame ∷ []) (sym g.waits)) refl (kept_first s.waiting s.begun frame two)
          (record {
            few = omega (arith, many, full);
            sends = a.sound.sends;
            part = kept_part s.waiting s.begun frame two a.sound.part;
            frames = a.sound.frames;
            holds = a.sound.holds;
            pause = a.sound.pause;
          }) (let e = g.counts Full in omega (arith, e))
          (let e = g.counts NoMemory in omega (arith, e))
          (let e = g.counts Unreachable in omega (arith, e)),
    )

pub pushes : (answer : PushOutcome) (h : History) (s t : LinkState) (ts : List Told)
    (frame : List ℕ)
    → Holds h s ts → Pushes answer frame s t
    → (us : List Told) × Holds (Then h (Push frame answer)) t us
pushes push.Waits h s t ts frame a k = (
  ts ++ told frame Waits ∷ [],
  subst (λ z. Holds (Then h (Push frame push.Waits)) z (ts ++ told frame Waits ∷ [])) (sym k.1)
      (waits_more h s ts frame a k.0),
)
pushes push.DroppedOldest h s t ts frame a k =
    let e = oldest_goes h s ts frame a k.0 in
    (e.0, subst (λ z. Holds (Then h (Push frame push.DroppedOldest)) z e.0) (sym k.1) e.1)
pushes push.NoMemory h s t ts frame a k = (
  ts ++ told frame (Dropped NoMemory) ∷ [],
  subst (λ z. Holds (Then h (Push frame push.NoMemory)) z
      (ts ++ told frame (Dropped NoMemory) ∷ [])) (sym k.1) (refused_more h s ts frame a),
)
